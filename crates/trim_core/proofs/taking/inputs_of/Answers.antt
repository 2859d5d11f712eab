use Rattle.trim_core.proofs.FileLemmas.{count_is}
use Rattle.trim_core.proofs.taking.inputs_of.Goals as goal

pub slice_bounds-result-end : goal.slice_bounds-result-end
slice_bounds-result-end c = count_is c.args.files.now c.args.world.now c.len-count.result c.as_slice.result.now c.requires c.len-count.ensures c.as_slice.ensures
