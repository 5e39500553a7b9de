-- Items kept in first-in-first-out lists by class (requests 2026-02 and 2026-08), in the words of the work slice. Items are numbers, and each has
-- a class; one whose class is not below `classes` is in no list. Assumes nothing: these are definitions.
use Rattle.std.specs.Prelude.{◌≡◌, Bool, ◌&&◌, ◌||◌, cond, Option, Some, None, List, [], ◌∷◌, ◌⊎◌, ℕ, zero, suc, ◌+◌, ◌-◌, ◌^◌, ◌<◌, ◌≤◌, eqb, leb, length, get_or, set, find}
use Rattle.basics.specs.Lists.{slots}
use Rattle.chains.specs.declared.Chains.{Chains}

-- the least j of class b with i ≤ j < k, if there is one
unfoldable pub least_from : (ℕ → ℕ) → ℕ → ℕ → ℕ → Option ℕ
least_from class b i k = find (λ j. leb i j && eqb (class j) b) (slots k)

-- the item that a word holds
abbrev pub item_of : ℕ → Option ℕ
item_of zero = None
item_of (suc i) = Some i

-- what stands in the words as the first item of a class, and as the next one of an item's class
abbrev pub first_in : Chains → List ℕ → ℕ → Option ℕ
first_in c ws b = item_of (get_or ws (c.heads.0 + b) 0)

abbrev pub next_in : Chains → List ℕ → ℕ → Option ℕ
next_in c ws i = item_of (get_or ws (c.links.0 + i) 0)

-- the words hold the lists of the first k items: of each class the first one; of each item the next one of its class; and for a class that has items
-- the last one, which none of its class follows
pub record Chained (c : Chains) (class : ℕ → ℕ) (k : ℕ) (ws : List ℕ) : Type 0 where
  pub head : (b : ℕ) → b < c.classes → first_in c ws b ≡ least_from class b 0 k
  pub next : (i : ℕ) → i < k → class i < c.classes → next_in c ws i ≡ least_from class (class i) (i + 1) k
  pub tail : (i : ℕ) → i < k → class i < c.classes → least_from class (class i) (i + 1) k ≡ None → get_or ws (c.tails.0 + class i) 0 ≡ i + 1

-- the items from one on as the words link them, n at most
unfoldable pub linked : Chains → List ℕ → ℕ → Option ℕ → List ℕ
linked c ws zero at = []
linked c ws (suc n) None = []
linked c ws (suc n) (Some i) = i ∷ linked c ws n (next_in c ws i)

-- so from the first item of a class on
abbrev pub list_in : Chains → List ℕ → ℕ → ℕ → List ℕ
list_in c ws n b = linked c ws n (first_in c ws b)

-- the words with item i appended to the list of class b: none is next to it; it is the first one, or next to the last one so far; it is the last one
unfoldable pub appended : Chains → List ℕ → ℕ → ℕ → List ℕ
appended c ws i b =
    let at = cond (eqb (get_or ws (c.heads.0 + b) 0) 0) (c.heads.0 + b) (c.links.0 + (get_or ws (c.tails.0 + b) 0 - 1)) in
    set (set (set ws (c.links.0 + i) 0) at (i + 1)) (c.tails.0 + b) (i + 1)

-- an area of n words from a on and one of m words from b on do not meet
unfoldable pub apart : ℕ → ℕ → ℕ → ℕ → Bool
apart a n b m = leb (a + n) b || leb (b + m) a

-- the three areas, with links for n items, do not meet and lie in the first `words` words; for constants this computes
unfoldable pub fits : Chains → ℕ → ℕ → Bool
fits c n words =
    apart c.heads.0 c.classes c.tails.0 c.classes && apart c.heads.0 c.classes c.links.0 n && apart c.tails.0 c.classes c.links.0 n
    && leb (c.heads.0 + c.classes) words && leb (c.tails.0 + c.classes) words && leb (c.links.0 + n) words

-- the words from one index up to another are in none of the three
abbrev pub Beside : Chains → ℕ → ℕ → ℕ → Type 0
Beside c n from to =
    ((to ≤ c.heads.0) ⊎ (c.heads.0 + c.classes ≤ from)) × ((to ≤ c.tails.0) ⊎ (c.tails.0 + c.classes ≤ from)) × ((to ≤ c.links.0) ⊎ (c.links.0 + n ≤ from))

-- from words ws to ws' none changed but in the three
pub record Only (c : Chains) (n : ℕ) (ws ws' : List ℕ) : Type 0 where
  pub others : (x : ℕ) → Beside c n x (x + 1) → get_or ws' x 0 ≡ get_or ws x 0
  pub same : length ws' ≡ length ws

-- what a search through a list asks: the words hold lists of some items, whose numbers a u32 holds, and each of these may be tested
pub record Searchable (pre : ℕ → Type 0) (c : Chains) (ws : List ℕ) : Type 0 where
  pub class : ℕ → ℕ
  pub items : ℕ
  pub chained : Chained c class items ws
  pub few : items ≤ 2 ^ 32
  pub may : (i : ℕ) → i < items → pre i

-- what a test answers of the first k items is t
abbrev pub Agrees : (ℕ → Bool → Type 0) → ℕ → (ℕ → Bool) → Type 0
Agrees post k t = (i : ℕ) (y : Bool) → i < k → post i y → y ≡ t i

-- what the search gives, for the lists of whatever items the words hold: the first of all items that is of the class and passes
pub record Finds (post : ℕ → Bool → Type 0) (c : Chains) (ws : List ℕ) (b : ℕ) (r : Option ℕ) : Type 0 where
  pub found : (class : ℕ → ℕ) (k : ℕ) (t : ℕ → Bool) → Chained c class k ws → Agrees post k t → r ≡ find (λ i. eqb (class i) b && t i) (slots k)
