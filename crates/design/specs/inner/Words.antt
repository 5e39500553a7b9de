-- The change queue in the words of the work slice. Public contracts do not cite this file: at return the words are 0. Assumes nothing: these
-- are definitions.
use Rattle.std.specs.Prelude.{◌≡◌, Bool, not, List, ℕ, ◌+◌, ◌<◌, get_or}
use Rattle.value.specs.declared.Net.{Net}
use Rattle.value.specs.Value.{net_at, eq_net}
use Rattle.basics.specs.Lists.{tabulate, any_of}
use Rattle.cell.specs.declared.Record.{Record}
use Rattle.cell.specs.Records.{cell_of}
use Rattle.netlist.specs.inner.Fields.{renamed_record}
use Rattle.netlist.specs.inner.Areas.{word_record, store_words, records_in, replaced_at}
use Rattle.netlist.specs.Shape.{visit}
use Rattle.netlist.specs.Netlist.{Netlist, netlist_of}
use Rattle.design.specs.Queue.{Design, map_net_new, applied}

-- the netlist of the first n slots, and with it the replaced nets
abbrev pub netlist_in : ℕ → List ℕ → Netlist
netlist_in n ws = netlist_of (records_in n ws)

unfoldable pub replaced_in : ℕ → List ℕ → List Net
replaced_in n ws = tabulate (λ s. net_at (get_or ws (replaced_at + s) 0)) n

unfoldable pub design_in : ℕ → List ℕ → Design
design_in n ws = record { cells = (netlist_in n ws).cells; replaced = replaced_in n ws }

-- what `apply` leaves in the slots
unfoldable pub applied_in : ℕ → List ℕ → Netlist
applied_in n ws = record { cells = applied (design_in n ws); bits = (netlist_in n ws).bits }

-- the record of a slot, renamed by the replaced nets
abbrev pub replaced_record : ℕ → List ℕ → ℕ → Record
replaced_record n ws s = renamed_record (map_net_new (replaced_in n ws)) (word_record ws s)

-- a slot's part of `did_change`
unfoldable pub changes_in : ℕ → List ℕ → ℕ → Bool
changes_in n ws s = any_of (λ x. not (eq_net (map_net_new (replaced_in n ws) x) x)) (visit (cell_of (word_record ws s)))

-- `apply` at one slot
pub record Applies (n s : ℕ) (ws ws' : List ℕ) (r : Bool) : Type 0 where
  pub stored : ws' ≡ store_words ws s (replaced_record n ws s)
  pub bit : (word_record ws s).bit < 65536
  pub changed : r ≡ changes_in n ws s
