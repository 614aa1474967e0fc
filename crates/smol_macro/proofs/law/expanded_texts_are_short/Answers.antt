use Rattle.smol_macro.proofs.ShortText.{expanded-short}
use Rattle.smol_macro.proofs.law.expanded_texts_are_short.Goals as goal

pub returns : goal.returns
returns c = expanded-short
