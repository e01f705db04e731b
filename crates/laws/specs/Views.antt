-- Views of the judged words with one function changed: what a step says of them. Assumes nothing.
use Rattle.std.specs.Prelude.{◌≡◌, ◌≢◌, true, false, List, ℕ, eqb}
use Rattle.std.proofs.Common.{eq-eqb, ne_eqb}
use Rattle.model.specs.Map as Map
use Rattle.model.specs.Bytes.{word}
use Rattle.laws.specs.Inv.{View}

-- a function changed at one number
unfoldable pub put1 : (ℕ → ℕ) → ℕ → ℕ → ℕ → ℕ
put1 f q v p = elim (eqb p q) [ true ↦ v | false ↦ f p ]

pub put1_same : (f : ℕ → ℕ) (q v p : ℕ) → p ≡ q → put1 f q v p ≡ v
unfolding put1
put1_same f q v p e = rw (eq-eqb p q e, put1)

pub put1_other : (f : ℕ → ℕ) (q v p : ℕ) → p ≢ q → put1 f q v p ≡ f p
unfolding put1
put1_other f q v p n = rw (ne_eqb p q n, put1)

-- ---- a view with some of its functions changed
abbrev pub with_words : View → (ℕ → ℕ) → (ℕ → ℕ) → (ℕ → ℕ) → (ℕ → ℕ) → (ℕ → ℕ) → View
with_words W n z r l t = record {
  note = n;
  size = z;
  reason = r;
  label = l;
  state = t;
  sem = W.sem;
  low = W.low;
  code = W.code;
  next = W.next;
  entry = W.entry;
}

abbrev pub with_state : View → (ℕ → ℕ) → View
with_state W t = with_words W W.note W.size W.reason W.label t

abbrev pub with_reason : View → (ℕ → ℕ) → View
with_reason W r = with_words W W.note W.size r W.label W.state

abbrev pub with_rest : View → (ℕ → ℕ) → (ℕ → ℕ) → (ℕ → ℕ) → ℕ → (ℕ → ℕ) → View
with_rest W s l c n e = record {
  note = W.note;
  size = W.size;
  reason = W.reason;
  label = W.label;
  state = W.state;
  sem = s;
  low = l;
  code = c;
  next = n;
  entry = e;
}

abbrev pub with_sem : View → (ℕ → ℕ) → View
with_sem W s = with_rest W s W.low W.code W.next W.entry

abbrev pub with_low : View → (ℕ → ℕ) → View
with_low W l = with_rest W W.sem l W.code W.next W.entry

abbrev pub with_code : View → (ℕ → ℕ) → View
with_code W c = with_rest W W.sem W.low c W.next W.entry

abbrev pub with_entry : View → ℕ → (ℕ → ℕ) → View
with_entry W n e = with_rest W W.sem W.low W.code n e

-- page q as the memory m has it
abbrev pub retold : List ℕ → View → ℕ → View
retold m W q =
    with_words W (put1 W.note q (word m q Map.note)) (put1 W.size q (word m q Map.size)) (put1 W.reason q (word m q Map.reason))
    (put1 W.label q (word m q Map.label)) (put1 W.state q (word m q Map.state))
