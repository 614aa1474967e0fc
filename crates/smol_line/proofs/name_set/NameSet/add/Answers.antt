use Rattle.std.proofs.Common.{◌++◌, ◌∷◌, [], map, position, is_some, string_bytes, ap, ◌∙◌}
use Rattle.std.specs.Str.{bytes_eq}
use Rattle.smol_line.proofs.SetLemmas.{added_name}
use Rattle.smol_line.proofs.name_set.NameSet.add.Goals as goal

pub returns-clause-added : goal.returns-clause-added
returns-clause-added c =
    let keys = c.self.inside.names.keys in
    let key = c.in_ok-name.name in
    let name = c.args.name.now in
    let same = c.in_ok-name.ensures.ok in
    let new =
    ap (λ n. is_some (position (bytes_eq n) (map string_bytes keys))) same
    ∙ ap (λ names. is_some (position (bytes_eq name) names)) c.self.view_is
    ∙ c.requires.new in
    ap (map string_bytes) c.in_ok-insert.ensures.keys
    ∙ added_name keys key new
    ∙ ap (λ names. names ++ string_bytes key ∷ []) c.self.view_is
    ∙ ap (λ n. c.args.self.now ++ n ∷ []) same
