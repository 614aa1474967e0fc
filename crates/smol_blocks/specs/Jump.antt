-- `jump P FACE ARROW Q FACE`: where a jump from a face of a panel leads. Both panels are of the surface, across one
-- axis and with equal edges.
use Rattle.std.specs.Prelude.{ℕ, ◌==◌, ◌&&◌, Bool, true, false, ℤ, ◌-ℤ◌, List, [], ◌∷◌, Result, Ok, Err, if◌then◌else◌, codes, slice_index_or}
use Rattle.std.specs.Ordering.{int_eq}
use Rattle.std.specs.Str.{bytes_eq}
use Rattle.smol_geom.specs.declared.rect.Rect.{Rect}
use Rattle.smol_geom.specs.Axes.{on_axis}
use Rattle.smol_text.specs.Reading.{Stated}
use Rattle.smol_types.specs.declared.fault.Kind.{Kind}
use Rattle.smol_types.specs.declared.fault.Kind.TheVariants.{BadJump}
use Rattle.smol_line.specs.Words.{word_at}
use Rattle.smol_line.specs.Checks.{unless, word_count, passing, with_value}
use Rattle.smol_line.specs.SpeciesWord.{number_in}
use Rattle.smol_blocks.specs.declared.jump.Leading.{Leading}
use Rattle.smol_blocks.specs.Faces.{face_in}

-- whether an arrow leads both ways: `->` one way, and `<->` back too
unfoldable pub arrow_in : List ℕ → Result Bool Kind
arrow_in word =
    if bytes_eq word (codes "->") then Ok false else (if bytes_eq word (codes "<->") then Ok true else Err BadJump)

-- how long a rectangle is on an axis
abbrev pub edge_of : Rect → ℕ → ℤ
edge_of rect axis = on_axis rect.high axis -ℤ on_axis rect.low axis

-- two rectangles lie across one axis and have equal edges
abbrev pub are_congruent : Rect → Rect → Bool
are_congruent a b =
    (a.axis == b.axis) && int_eq (edge_of a 0) (edge_of b 0) && int_eq (edge_of a 1) (edge_of b 1) && int_eq (edge_of a 2) (edge_of b 2)

-- a rectangle to speak of where there is none
abbrev pub no_rect : Rect
no_rect = record { axis = 0; low = []; high = [] }

-- where a line leads from and to, beside these names of the surface's panels and their rectangles
unfoldable pub jump_in : List (List ℕ) → List Rect → Stated → Result Leading Kind
jump_in names rects line =
    passing (word_count 6 line ∷ [])
    (with_value (number_in names (word_at line 1)) (λ from.
    with_value (face_in (word_at line 2)) (λ from_face.
    with_value (arrow_in (word_at line 3)) (λ both.
    with_value (number_in names (word_at line 4)) (λ to.
    with_value (face_in (word_at line 5)) (λ to_face.
    passing (unless (are_congruent (slice_index_or rects from no_rect) (slice_index_or rects to no_rect)) BadJump ∷ [])
    (Ok (record { from = from; from_face = from_face; to = to; to_face = to_face; both = both }))))))))
