use Rattle.std.proofs.Common.{◌≡◌, ◌++◌, List, ℕ, OnOk, append_assoc, codes, drop, ap, subst, ◌∙◌, arith}
use Rattle.smol_meaning.specs.Lines.{place_text}
use Rattle.smol_commands.proofs.Spaced.{space_before}
use Rattle.smol_commands.proofs.printing.add_place.Goals as goal

pub returns : goal.returns
returns c =
    let place = c.args.place in
    let text = place_text c.args.config.now place in
    let old = c.args.page.now.items in
    let all : c.push.new.self.items ++ drop 1 text ≡ old ++ text =
    ap (λ (front : List ℕ). front ++ drop 1 text) c.in_ok-push.ensures.items
    ∙ append_assoc old (codes " ") (drop 1 text)
    ∙ ap (λ (back : List ℕ). old ++ back) (space_before c.args.config.now.dims place.0 c.requires (omega arith)) in
    subst (λ (whole : List ℕ). OnOk c.line_of_place.result (c.line_of_place.new.page.items ≡ whole)) all c.line_of_place.ensures.ok
