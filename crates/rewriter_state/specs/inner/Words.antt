-- The state of the rewriter in the words of the work slice. Public contracts do not cite this file: at return the words are 0. Assumes nothing: these are
-- definitions.
use Rattle.std.specs.Prelude.{◌≡◌, List, [], ◌∷◌, ◌++◌, ℕ, ◌+◌, ◌≤◌, ◌<◌, length, get_or, Result, Ok, Err}
use Rattle.value.specs.declared.Net.{Net}
use Rattle.cell.specs.declared.Cell.{Cell}
use Rattle.netlist.specs.inner.Areas.{word_record, words_in, replaced_at, figures_at, Within, keys_from, mixes_at, visited_at}
use Rattle.design.specs.Queue.{Design, net_in, replace_cell, replace_net}
use Rattle.numberer.specs.Numberer.{Entry}
use Rattle.design.specs.inner.Words.{netlist_in, replaced_in}
use Rattle.numberer.specs.inner.Words.{numberer_in, Entered, Mixed}
use Rattle.rewrite.specs.Rewriter.{Rewriter, entered, finished}
use Rattle.rewriter_state.specs.declared.Extent.{Extent}
use Rattle.rewriter_state.specs.declared.Full.{Full}

-- stamps stand a word a slot, where `levels` has its figures
abbrev pub stamps_at : ℕ
stamps_at = figures_at

-- the rewriter that the words hold, up to an extent: the cache is the numberer
unfoldable pub rewriter_in : Extent → List ℕ → Rewriter
rewriter_in x ws =
    record {
      design = record { cells = (netlist_in x.slots ws).cells; replaced = replaced_in x.tickets ws };
      cache = numberer_in x.entries ws;
      stamps = words_in stamps_at x.slots ws;
      clock = x.clock;
    }

-- the words are long enough, and what is counted fits: an entry, and a stamp, for a slot each
pub record Held (x : Extent) (ws : List ℕ) : Type 0 where
  pub long : 16384 ≤ length ws
  pub few : x.tickets ≤ 512
  pub many : x.tickets ≤ x.slots
  pub fit : x.slots ≤ 1024
  pub timed : x.clock ≤ x.slots
  pub cached : x.entries ≤ x.clock
  pub entries : Entered x.entries ws
  pub mixed : Mixed x.entries ws
  pub single : (i : ℕ) → x.tickets ≤ i → i < x.slots → (word_record ws i).bit ≡ 0

-- no slot is stamped
pub record ClearsStamps (n : ℕ) (ws ws' : List ℕ) : Type 0 where
  pub zeros : (i : ℕ) → i < n → get_or ws' (stamps_at + i) 0 ≡ 0
  pub frame : Within stamps_at mixes_at ws ws'

-- from words ws to ws' none but records, stamps and the cache changed, and no bit number of the ticket's records
pub record Changes (x : Extent) (ws ws' : List ℕ) : Type 0 where
  pub bits : (i : ℕ) → i < x.tickets → (word_record ws' i).bit ≡ (word_record ws i).bit
  pub between : (i : ℕ) → visited_at ≤ i → i < figures_at → get_or ws' i 0 ≡ get_or ws i 0
  pub after : (i : ℕ) → keys_from ≤ i → get_or ws' i 0 ≡ get_or ws i 0
  pub same : length ws' ≡ length ws

-- from one extent to another: the ticket stays, and each cell that was added has an entry and a stamp
pub record Onward (x x' : Extent) : Type 0 where
  pub tickets : x'.tickets ≡ x.tickets
  pub slots : x.slots ≤ x'.slots
  pub clock : x'.clock + x.slots ≡ x.clock + x'.slots

-- one more entry is cached; one more stamp is given
abbrev pub with_entry : Extent → Extent
with_entry x = record x { entries = x.entries + 1 }

abbrev pub with_stamp : Extent → Extent
with_stamp x = record x { clock = x.clock + 1 }

-- a cell is added in the next slot
pub record EntersAt (x x' : Extent) (ws ws' : List ℕ) (c : Cell) (n : Net) : Type 0 where
  pub at : n ≡ net_in x.slots
  pub now : rewriter_in x' ws' ≡ entered (rewriter_in x ws) c n
  pub held : Held x' ws'
  pub onward : Onward x x'
  pub changes : Changes x ws ws'

abbrev pub Enters : Extent → Extent → List ℕ → List ℕ → Cell → Result Net Full → Type 0
Enters x x' ws ws' c (Ok n) = EntersAt x x' ws ws' c n
Enters x x' ws ws' c (Err e) = (x.slots ≡ 1024) × Within 0 keys_from ws ws'

-- a slot of the ticket may be finished: there is room for its stamp
pub record ReadySlot (x : Extent) (s : ℕ) (ws : List ℕ) : Type 0 where
  pub held : Held x ws
  pub small : s < x.tickets
  pub room : x.clock < x.slots

-- a slot is finished, with a change to the design and to the cache; now the replaced nets may change too
pub record Finishes (s : ℕ) (x x' : Extent) (ws ws' : List ℕ) (d : Design) (es : List Entry) : Type 0 where
  pub now : rewriter_in x' ws' ≡ finished (rewriter_in x ws) s d es
  pub held : Held x' ws'
  pub tickets : x'.tickets ≡ x.tickets
  pub slots : x'.slots ≡ x.slots
  pub clock : x'.clock ≡ x.clock + 1
  pub bits : (i : ℕ) → i < x.tickets → (word_record ws' i).bit ≡ (word_record ws i).bit
  pub between : (i : ℕ) → visited_at ≤ i → i < replaced_at → get_or ws' i 0 ≡ get_or ws i 0
  pub after : (i : ℕ) → keys_from ≤ i → get_or ws' i 0 ≡ get_or ws i 0
  pub same : length ws' ≡ length ws

-- the three ways: its net is replaced; its cell stays, known by the form c; it has another cell
abbrev pub Replaces : ℕ → Extent → Extent → List ℕ → List ℕ → Net → Type 0
Replaces s x x' ws ws' n = let r = rewriter_in x ws in Finishes s x x' ws ws' (replace_net r.design s n) r.cache

abbrev pub Stays : ℕ → Extent → Extent → List ℕ → List ℕ → Cell → Type 0
Stays s x x' ws ws' c = let r = rewriter_in x ws in Finishes s x x' ws ws' r.design (r.cache ++ ((c, net_in s) ∷ []))

abbrev pub Becomes : ℕ → Extent → Extent → List ℕ → List ℕ → Cell → Type 0
Becomes s x x' ws ws' c = let r = rewriter_in x ws in Finishes s x x' ws ws' (replace_cell r.design s c) (r.cache ++ ((c, net_in s) ∷ []))

-- the nets of added slots stand for themselves, and the ticket's are replaced as they were
pub record Stands (x : Extent) (ws ws' : List ℕ) : Type 0 where
  pub old : (i : ℕ) → i < x.tickets → get_or ws' (replaced_at + i) 0 ≡ get_or ws (replaced_at + i) 0
  pub own : (i : ℕ) → x.tickets ≤ i → i < x.slots → get_or ws' (replaced_at + i) 0 ≡ i + 2
  pub frame : Within replaced_at stamps_at ws ws'
