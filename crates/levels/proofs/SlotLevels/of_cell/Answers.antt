use Rattle.levels.proofs.Cells.{input-level, output-level, buf-level, not-level, and-level, or-level, xor-level, mux-level, aig-level}
use Rattle.levels.proofs.SlotLevels.of_cell.Goals as goal

pub returns-in-Input : goal.returns-in-Input
returns-in-Input c = search input-level

pub returns-in-Output : goal.returns-in-Output
returns-in-Output c = search output-level

pub returns-in-Buf : goal.returns-in-Buf
returns-in-Buf c = search buf-level

pub returns-in-Not : goal.returns-in-Not
returns-in-Not c = search not-level

pub returns-in-And : goal.returns-in-And
returns-in-And c = search and-level

pub returns-in-Or : goal.returns-in-Or
returns-in-Or c = search or-level

pub returns-in-Xor : goal.returns-in-Xor
returns-in-Xor c = search xor-level

pub returns-in-Mux : goal.returns-in-Mux
returns-in-Mux c = search mux-level

pub returns-in-Aig : goal.returns-in-Aig
returns-in-Aig c = search aig-level
