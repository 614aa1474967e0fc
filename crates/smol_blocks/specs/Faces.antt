-- Words that name faces of panels.
use Rattle.std.specs.Prelude.{ℕ, List, Option, None, Some, Result, Ok, Err, if◌then◌else◌, codes}
use Rattle.std.specs.Str.{bytes_eq}
use Rattle.smol_types.specs.declared.fault.Kind.{Kind}
use Rattle.smol_types.specs.declared.fault.Kind.TheVariants.{BadFace}
use Rattle.smol_types.specs.declared.surface.Face.{Face}
use Rattle.smol_types.specs.declared.surface.Face.TheVariants as face
use Rattle.smol_blocks.specs.declared.faces.Faces.{Faces}
use Rattle.smol_blocks.specs.declared.faces.Faces.TheVariants.{Front, Back, Both}

-- the face or the faces that a word names
unfoldable pub faces_named : List ℕ → Option Faces
faces_named word =
    if bytes_eq word (codes "front")
    then Some Front
    else (if bytes_eq word (codes "back") then Some Back else (if bytes_eq word (codes "both") then Some Both else None))

-- one face, and not both
abbrev pub one_face : Option Faces → Result Face Kind
one_face None = Err BadFace
one_face (Some Front) = Ok face.Front
one_face (Some Back) = Ok face.Back
one_face (Some Both) = Err BadFace

-- the one face that a word names
abbrev pub face_in : List ℕ → Result Face Kind
face_in word = one_face (faces_named word)

-- the faces that one of two words names, the first one where both do
abbrev pub faces_of : Option Faces → Option Faces → Result Faces Kind
faces_of (Some faces) second = Ok faces
faces_of None (Some faces) = Ok faces
faces_of None None = Err BadFace

abbrev pub faces_in : List ℕ → List ℕ → Result Faces Kind
faces_in first second = faces_of (faces_named first) (faces_named second)

-- the other one of the two words
abbrev pub other_of : Option Faces → List ℕ → List ℕ → List ℕ
other_of None first second = first
other_of (Some faces) first second = second

abbrev pub other_word : List ℕ → List ℕ → List ℕ
other_word first second = other_of (faces_named first) first second
