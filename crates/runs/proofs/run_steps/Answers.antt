-- `runs::run_steps` meets its contract.
use Rattle.runs.proofs.Accepted.{ready_built}
use Rattle.runs.proofs.run_steps.Goals as goal

pub buckets-buckets-requires : goal.buckets-buckets-requires
buckets-buckets-requires c = record { ceiling_bound = c.requires.valid.low_ceiling; allowed = c.requires.allowed }

pub steps-requires : goal.steps-requires
steps-requires c = record { levels = c.args.levels; built = ready_built c.requires c.buckets-buckets.ensures c.segment_count-segments.ensures c.sizes-sizes.ensures c.work_words-needed.ensures }

pub returns : goal.returns
returns c = c.steps.ensures c.args.levels (ready_built c.requires c.buckets-buckets.ensures c.segment_count-segments.ensures c.sizes-sizes.ensures c.work_words-needed.ensures)
