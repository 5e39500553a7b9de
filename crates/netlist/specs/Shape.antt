-- What a cell reads, and of what sort it is, after netlist/src/cell.rs. Assumes nothing: these are definitions.
use Rattle.std.specs.Prelude.{Bool, true, false, cond, ◌||◌, List, [], ◌∷◌}
use Rattle.value.specs.declared.Net.{Net}
use Rattle.value.specs.declared.ControlNet.{ControlNet}
use Rattle.value.specs.declared.ControlNet.TheVariants.{Pos, Neg}
use Rattle.value.specs.Value.{net}
use Rattle.cell.specs.declared.Cell.{Cell}
use Rattle.cell.specs.declared.Cell.TheVariants.{Input, Output, Buf, Not, And, Or, Xor, Mux, Aig}

-- the operands in the order of the fields: `CellRepr::visit`, and `get_deps` of `Design::topo_sort` for a bit. (`Cell::visit` takes a wide
-- mux's select last; it is used for sets only)
unfoldable pub visit : Cell → List Net
visit (Input l) = []
visit (Output a l) = a ∷ []
visit (Buf a) = a ∷ []
visit (Not a) = a ∷ []
visit (And a b) = a ∷ b ∷ []
visit (Or a b) = a ∷ b ∷ []
visit (Xor a b) = a ∷ b ∷ []
visit (Mux a b c) = a ∷ b ∷ c ∷ []
visit (Aig p q) = net p ∷ net q ∷ []

-- `ControlNet::visit_mut`
abbrev pub visit_control : (Net → Net) → ControlNet → ControlNet
visit_control f (Pos n) = Pos (f n)
visit_control f (Neg n) = Neg (f n)

-- `CellRepr::visit_mut`: a function put to each operand
unfoldable pub visit_mut : (Net → Net) → Cell → Cell
visit_mut f (Input l) = Input l
visit_mut f (Output a l) = Output (f a) l
visit_mut f (Buf a) = Buf (f a)
visit_mut f (Not a) = Not (f a)
visit_mut f (And a b) = And (f a) (f b)
visit_mut f (Or a b) = Or (f a) (f b)
visit_mut f (Xor a b) = Xor (f a) (f b)
visit_mut f (Mux a b c) = Mux (f a) (f b) (f c)
visit_mut f (Aig p q) = Aig (visit_control f p) (visit_control f q)

abbrev pub is_input : Cell → Bool
is_input (Input l) = true
is_input (Output a l) = false
is_input (Buf a) = false
is_input (Not a) = false
is_input (And a b) = false
is_input (Or a b) = false
is_input (Xor a b) = false
is_input (Mux a b c) = false
is_input (Aig p q) = false

-- a source has its level from outside the tick. design.rs, `is_comb_edge`, asks it of the driver of a net, and a source drives no such edge
abbrev pub is_source : Cell → Bool
is_source (Input l) = true
is_source (Output a l) = false
is_source (Buf a) = false
is_source (Not a) = false
is_source (And a b) = false
is_source (Or a b) = false
is_source (Xor a b) = false
is_source (Mux a b c) = false
is_source (Aig p q) = false

-- what a cell reads within a tick: loops, levels and ranks go by it. What it reads at all is `visit`
unfoldable pub comb_reads : Cell → List Net
comb_reads c = cond (is_source c) [] (visit c)

abbrev pub is_output : Cell → Bool
is_output (Input l) = false
is_output (Output a l) = true
is_output (Buf a) = false
is_output (Not a) = false
is_output (And a b) = false
is_output (Or a b) = false
is_output (Xor a b) = false
is_output (Mux a b c) = false
is_output (Aig p q) = false

-- `Cell::has_effects`
unfoldable pub has_effects : Cell → Bool
has_effects c = is_input c || is_output c

-- `is_splittable` of `Design::topo_sort`
abbrev pub is_splittable : Cell → Bool
is_splittable (Input l) = false
is_splittable (Output a l) = false
is_splittable (Buf a) = true
is_splittable (Not a) = true
is_splittable (And a b) = true
is_splittable (Or a b) = true
is_splittable (Xor a b) = true
is_splittable (Mux a b c) = true
is_splittable (Aig p q) = false
