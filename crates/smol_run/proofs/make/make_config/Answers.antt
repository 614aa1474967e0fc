use Rattle.std.proofs.Common.{◌≡◌, ◌++◌, ◌-◌, ◌/◌, List, ◌∷◌, ℕ, append_assoc, ap, sym, ◌∙◌}
use Rattle.std.specs.Prelude.{codes}
use Rattle.std.specs.Fmt.{decimal}
use Rattle.smol_run.specs.Generated.{binding_lines, box_lines, ended, generated, mol_line, space_lines}
use Rattle.smol_run.proofs.make.make_config.Goals as goal

-- a text to which pieces were added is these, one behind the other
pieces_added : (space seed n feed box mol half of_a rest of_b binding t u v w x y : List ℕ) → t ≡ space → u ≡ t ++ seed ++ n ++ feed → v ≡ u ++ box
    → w ≡ v ++ mol ++ half ++ of_a → x ≡ w ++ mol ++ rest ++ of_b → y ≡ x ++ binding
    → y ≡ space ++ (seed ++ (n ++ (feed ++ (box ++ (mol ++ (half ++ (of_a ++ (mol ++ (rest ++ (of_b ++ binding))))))))))
pieces_added space seed n feed box mol half of_a rest of_b binding t u v w x y t_is u_is v_is w_is x_is y_is =
    rw (y_is, x_is, w_is, v_is, u_is, t_is) (simp append_assoc)

regrouped : (a b c d e : List ℕ) → a ++ b ++ c ++ d ++ e ≡ a ++ (b ++ (c ++ (d ++ e)))
regrouped a b c d e = simp append_assoc

-- the number in a line, with what stands before and behind it
mol_line-ended : (count : ℕ) (species rest : List ℕ) → mol_line count species ++ 10 ∷ rest
    ≡ codes "mol " ++ (decimal count ++ (codes " " ++ (species ++ (codes " u u u" ++ 10 ∷ rest))))
mol_line-ended count species rest = ap (λ back. codes "mol " ++ back) (regrouped (decimal count) (codes " ") species (codes " u u u") (10 ∷ rest))

-- the lines as such pieces
generated_pieces : (n : ℕ) → generated n
    ≡ ended space_lines ++ (codes "random_seed " ++ (decimal n ++ (codes "\n" ++ (ended box_lines ++ (codes "mol " ++ (decimal (n / 2) ++ (codes " A u u u\n"
    ++ (codes "mol " ++ (decimal (n - n / 2) ++ (codes " B u u u\n" ++ ended binding_lines))))))))))
unfolding generated
generated_pieces n =
    ap (λ back. ended space_lines ++ (codes "random_seed " ++ (decimal n ++ (codes "\n" ++ (ended box_lines ++ back)))))
    (mol_line-ended (n / 2) (codes "A") (mol_line (n - n / 2) (codes "B") ++ 10 ∷ ended binding_lines)
    ∙ ap (λ back. codes "mol " ++ (decimal (n / 2) ++ (codes " A u u u\n" ++ back))) (mol_line-ended (n - n / 2) (codes "B") (ended binding_lines)))

pub returns : goal.returns
returns c =
    pieces_added (ended space_lines) (codes "random_seed ") (decimal c.args.n) (codes "\n") (ended box_lines) (codes "mol ") (decimal (c.args.n / 2))
    (codes " A u u u\n") (decimal (c.args.n - c.args.n / 2)) (codes " B u u u\n") (ended binding_lines) _ _ _ _ _ _
    c.in_ok-text.ensures.items c.in_ok-add_numbered.ensures c.in_ok-extend_from_slice.ensures.items
    c.in_ok-add_numbered-2.ensures c.in_ok-add_numbered-3.ensures c.in_ok-extend_from_slice-2.ensures.items
    ∙ sym (generated_pieces c.args.n)
