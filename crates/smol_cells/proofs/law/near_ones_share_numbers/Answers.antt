use Rattle.std.proofs.Common.{length}
use Rattle.smol_cells.specs.Ranges.{are_meeting, boxes_at}
use Rattle.smol_cells.proofs.FilterLemmas.{filter_rises}
use Rattle.smol_cells.proofs.NearLists.{near_shared}
use Rattle.smol_cells.proofs.law.near_ones_share_numbers.Goals as goal

pub returns-clause-exactly : goal.returns-clause-exactly
returns-clause-exactly c = near_shared

pub returns-clause-ascending : goal.returns-clause-ascending
returns-clause-ascending c = λ ranges boxes. filter_rises (λ n. are_meeting (boxes_at ranges n) boxes) 0 (length ranges)
