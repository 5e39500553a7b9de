-- The netlist and the areas in the words, slot by slot. Assumes nothing.
use mathlib.Core.Path.{◌≡◌, ap, ◌∙◌}
use mathlib.Core.List.{List}
use Prim.Native.Nat.{ℕ, ◌+◌, ◌<◌, ◌≤◌}
use native.Mathlib.Omega.{arith}
use lib.ListN.{length, get_or, length-map, get_or-eq_default}
use Rattle.value.specs.declared.Net.{Net}
use Rattle.value.specs.Value.{net_at}
use Rattle.cell.specs.declared.Record.{Record}
use Rattle.cell.specs.Records.{record_of, cell_of}
use Rattle.basics.proofs.Tables.{tabulate-length, tabulate-at, map_at}
use Rattle.netlist.specs.inner.Areas.{word_record, records_in, Within, replaced_at, visited_at}
use Rattle.netlist.specs.Netlist.{cell_in, netlist_of}
use Rattle.netlist.proofs.Frames.{tabulate-same}
use Rattle.netlist.proofs.Cells.{cells-length as records-cells-length, cell_at as records-cell-at}
use Rattle.design.specs.inner.Words.{netlist_in, replaced_in}

module _ (n : ℕ) (ws : List ℕ) where
  count : length (records_in n ws) ≡ n
  unfolding records_in
  count = tabulate-length (word_record ws) n

  pub cells-length : length (netlist_in n ws).cells ≡ n
  unfolding netlist_of
  cells-length = records-cells-length n ws

  pub bits-length : length (netlist_in n ws).bits ≡ n
  unfolding netlist_of
  bits-length = length-map (records_in n ws) (λ (r : Record). r.bit) ∙ count

  module _ (s : ℕ) (h : s < n) where
    record-at : get_or (records_in n ws) s (record_of 0 0 0 0 0 0) ≡ word_record ws s
    unfolding records_in
    record-at = tabulate-at (word_record ws) n (record_of 0 0 0 0 0 0) s h

    pub bit_at : get_or (netlist_in n ws).bits s 0 ≡ (word_record ws s).bit
    unfolding netlist_of
    bit_at = map_at (λ (r : Record). r.bit) (records_in n ws) s 0 (record_of 0 0 0 0 0 0) (omega (arith, count)) ∙ ap (λ (r : Record). r.bit) record-at

    pub cell_at : cell_in (netlist_in n ws).cells s ≡ cell_of (word_record ws s)
    unfolding netlist_of
    cell_at = records-cell-at n ws s h

    pub replaced-at : (x : Net) → get_or (replaced_in n ws) s x ≡ net_at (get_or ws (replaced_at + s) 0)
    unfolding replaced_in
    replaced-at x = tabulate-at (λ i. net_at (get_or ws (replaced_at + i) 0)) n x s h

  pub replaced-length : length (replaced_in n ws) ≡ n
  unfolding replaced_in
  replaced-length = tabulate-length (λ i. net_at (get_or ws (replaced_at + i) 0)) n

  pub replaced-past : (s : ℕ) (x : Net) → n ≤ s → get_or (replaced_in n ws) s x ≡ x
  replaced-past s x h = get_or-eq_default (replaced_in n ws) x (omega (arith, replaced-length))

-- stores into the slots leave the replaced nets alone
pub replaced-kept : (n : ℕ) (ws ws' : List ℕ) → Within 0 visited_at ws ws' → replaced_in n ws' ≡ replaced_in n ws
unfolding replaced_in
replaced-kept n ws ws' p = tabulate-same (λ i. net_at (get_or ws' (replaced_at + i) 0)) (λ i. net_at (get_or ws (replaced_at + i) 0)) n (λ i l. ap net_at (p.after (replaced_at + i) (omega arith)))
