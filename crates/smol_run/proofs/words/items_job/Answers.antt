use Rattle.std.proofs.Common.{◌≡◌, ◌∙◌, ap, length, map, None, string_bytes, arith, rules}
use Rattle.std.proofs.lemmas.List.{length-map}
use Rattle.smol_run.specs.Words.{items_job}
use Rattle.smol_run.proofs.Items.{job_of_more, job_of_more-Finds, job_of_more-IsSecond, named-Finds, runs-Finds, workers-Finds}
use Rattle.smol_run.proofs.words.items_job.Goals as goal

-- the item is a second of its kind
pub returns-in_err-add-clause-job : goal.returns-in_err-add-clause-job
returns-in_err-add-clause-job c =
    let none : items_job (map string_bytes c.args.words.now) ≡ None =
    c.loop-index.invariant.same ∙ ap (job_of_more c.loop-index.found) c.in_ok-item.ensures.first ∙ job_of_more-IsSecond c.in_ok-item.item c.loop-index.found _ c.in_err-add.ensures in
    rw none (search rules)

-- the item counts as found, and the words go on behind it
pub loop-index-preserved : goal.loop-index-preserved
loop-index-preserved c =
    let words = map string_bytes c.args.words.now in
    let count = length-map c.args.words.now string_bytes in
    rw c.item_len-index.ensures
    (record {
      within = omega (arith, c.in_ok-item.ensures.fits, count);
      named = named-Finds c.in_ok-item.item c.loop-index.found c.add.new.self (length c.args.words.now) c.in_ok-add.ensures (rw count at c.in_ok-item.ensures.within) c.loop-index.invariant.named;
      workers = workers-Finds c.in_ok-item.item c.loop-index.found c.add.new.self c.in_ok-add.ensures c.in_ok-item.ensures.workers c.loop-index.invariant.workers;
      runs = runs-Finds c.in_ok-item.item c.loop-index.found c.add.new.self c.in_ok-add.ensures c.in_ok-item.ensures.runs c.loop-index.invariant.runs;
      same = c.loop-index.invariant.same ∙ ap (job_of_more c.loop-index.found) c.in_ok-item.ensures.first ∙ job_of_more-Finds c.in_ok-item.item c.loop-index.found c.add.new.self _ c.in_ok-add.ensures;
    })
