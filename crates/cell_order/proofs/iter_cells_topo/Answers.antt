-- `cell_order::iter_cells_topo` meets its contract. Assumes nothing.
use Rattle.cell_order.proofs.Starts.{outputs-long, outputs-room, cells-sorted}
use Rattle.cell_order.proofs.iter_cells_topo.Goals as goal

pub put_outputs-requires : goal.put_outputs-requires
put_outputs-requires c = record { in_bounds = search outputs-long; n_bound = search outputs-room }

pub returns : goal.returns
returns c = search cells-sorted
