use Rattle.std.proofs.Common.{position, string_bytes, sym, ap, ◌∙◌}
use Rattle.std.specs.Str.{bytes_eq}
use Rattle.smol_line.proofs.SetLemmas.{position-map, position-no_text}
use Rattle.smol_line.proofs.name_set.NameSet.number_of.Goals as goal

pub returns-in-Ok-clause-value : goal.returns-in-Ok-clause-value
returns-in-Ok-clause-value c =
    let keys = c.self.inside.names.keys in
    c.get_index_of.ensures.index
    ∙ ap (λ t. position (λ k. bytes_eq t (string_bytes k)) keys) c.in-Ok.ensures.cases.0
    ∙ sym (position-map (bytes_eq c.args.name.now) string_bytes keys)
    ∙ ap (position (bytes_eq c.args.name.now)) c.self.view_is

pub returns-in-Err-clause-value : goal.returns-in-Err-clause-value
returns-in-Err-clause-value c =
    sym (position-no_text c.args.name.now c.self.inside.names.keys c.in-Err.ensures.cases.0)
    ∙ ap (position (bytes_eq c.args.name.now)) c.self.view_is
