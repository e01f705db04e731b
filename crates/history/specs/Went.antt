-- Who runs: "On a change page 0's words are saved to the old page, then loaded from the new." Where a word stands for the one that ran, and that it holds
-- what it held before the change. Assumes nothing.
use Rattle.std.specs.Prelude.{◌≡◌, refl, ◌≢◌, ◌⊎◌, Bool, true, false, cond, List, ℕ, zero, suc, ◌<◌, length, eqb}
use Rattle.std.proofs.Common.{sym, ap, ◌∙◌, inl, inr, arith, length-set}
use borrow.Author.Tests.{eqb-true, eqb-false, eq-eqb, ne_eqb}
use Rattle.model.specs.Map.{flags_kept, guarded_last, high, high_lr, low, low_lr, memory_size, running_label, running_page, place, zero_place, keeps, kept_count}
use Rattle.model.specs.Address.{wrapped}
use Rattle.model.specs.Turn as Turn
use Rattle.model.specs.Processor as Processor
use Rattle.model.specs.Answer as Answer
use Rattle.model.specs.Answer.{memory_of}
use Rattle.model.specs.Bytes.{at, word, store, who_runs, chosen, running, lr, done}
use Rattle.laws.specs.Count.{hit_or}
use Rattle.laws.specs.Chain.{Page}
use Rattle.laws.specs.Frames.{other}
use Rattle.laws.specs.Turns.{turned_to, turned_page, turned_saved, turned_others}

-- where the word of address c stands for the processor of page r while another runs: one of the first n of the nineteen words of page 0 is kept on page r,
-- every other stays in place
unfoldable pub kept_at : ℕ → ℕ → ℕ → ℕ
kept_at zero r c = c
kept_at (suc n) r c = elim (eqb c (zero_place n)) [ true ↦ place r (keeps n) | false ↦ kept_at n r c ]

-- where it stands in the memory m, whoever runs there
unfoldable pub went_to : List ℕ → ℕ → ℕ → ℕ
went_to m r c = cond (eqb (running m) r) c (kept_at kept_count r c)

-- ---- one of the nineteen, or none
pub data Home (n r c : ℕ) : Type 0 where
  hit : (i : ℕ) → i < n → c ≡ zero_place i → kept_at n r c ≡ place r (keeps i) → Home n r c
  miss : ((i : ℕ) → i < n → c ≢ zero_place i) → kept_at n r c ≡ c → Home n r c

home : (n r c : ℕ) → Home n r c
unfolding kept_at
home zero r c = miss (λ i h. absurd (omega arith)) refl
home (suc n) r c = go (eqb c (zero_place n)) refl (home n r c)
  where
    off : ((i : ℕ) → i < n → c ≢ zero_place i) → eqb c (zero_place n) ≡ false → (i : ℕ) → i < suc n → (i ≡ n) ⊎ (i ≢ n) → c ≢ zero_place i
    off f e i h (inl z) = rw z (eqb-false c (zero_place n) e)
    off f e i h (inr z) = f i (omega arith)

    go : (x : Bool) → eqb c (zero_place n) ≡ x → Home n r c → Home (suc n) r c
    go true e k = hit n (omega arith) (eqb-true c (zero_place n) e) (rw (e, kept_at))
    go false e (hit i h z k) = let q : kept_at (suc n) r c ≡ kept_at n r c = rw (e, kept_at) in hit i (omega arith) z (q ∙ k)
    go false e (miss f k) = let q : kept_at (suc n) r c ≡ kept_at n r c = rw (e, kept_at) in miss (λ i h. off f e i h (hit_or i n)) (q ∙ k)

-- ---- who runs
module _ (m : List ℕ) (z : length m ≡ memory_size) (g : Page (running m)) where
  abbrev r : ℕ
  r = running m

  abbrev t : ℕ
  t = chosen m

  ran : r ≢ 0 → Page (running m)
  ran d = g

  abbrev m3 : List ℕ
  m3 = turned_to m z r t ran

  turn_stays : eqb r t ≡ true → who_runs m ≡ m
  unfolding Turn.who_runs Turn.switch
  turn_stays e = rw e

  turn_new : eqb r t ≡ false → who_runs m ≡ m3
  unfolding Turn.who_runs Turn.switch Turn.runs
  turn_new e = rw e

  module _ (c : ℕ) (l : c < guarded_last) (n8 : c ≢ running_page) (n9 : c ≢ running_label) where
    went_stays : who_runs m ≡ m → at (who_runs m) (went_to (who_runs m) (running m) c) ≡ at m c
    unfolding went_to
    went_stays e = rw (e, eq-eqb (running m) (running m) refl)

    went_home : Home kept_count r c → at m3 (kept_at kept_count r c) ≡ at m c
    went_home (hit i h q k) = rw k (turned_saved m z r t ran (omega (arith, g)) i h ∙ ap (λ (y : ℕ). at m y) (sym q))
    went_home (miss f k) = rw k (turned_others m z r t ran c n8 n9 (λ d i h. omega (arith, g)) (λ d i h. f i h))

    went_new : eqb r t ≡ false → at (who_runs m) (went_to (who_runs m) (running m) c) ≡ at m c
    unfolding went_to
    went_new e =
        let d = eqb-false r t e in
        rw (turn_new e, turned_page m z r t ran, ne_eqb t r (λ q. d (sym q))) (went_home (home kept_count r c))

    pub turn_went : at (who_runs m) (went_to (who_runs m) (running m) c) ≡ at m c
    turn_went = go (eqb r t) refl
      where
        go : (x : Bool) → eqb r t ≡ x → at (who_runs m) (went_to (who_runs m) (running m) c) ≡ at m c
        go true e = went_stays (turn_stays e)
        go false e = went_new e

-- ---- an instruction that is done
pub done_went : (m : List ℕ) → length m ≡ memory_size → Page (running m) → (len c : ℕ) → c < guarded_last → c ≢ running_page → c ≢ running_label
    → at (memory_of (done m len)) (went_to (memory_of (done m len)) (running m) c) ≡ at m c
unfolding Answer.done Answer.memory_of Processor.advance Processor.set_lr
done_went m z g len c l n8 n9 =
    let r = running m in
    let a = wrapped (lr m) len in
    let v = flags_kept (word m r high_lr) (high a) in
    let y = store m r high_lr v in
    let x = store y r low_lr (low a) in
    let run : running x ≡ running m = other y (place r low_lr) (low a) running_page (omega arith) ∙ other m (place r high_lr) v running_page (omega arith) in
    let h = turn_went x (simp length-set z) (rw run g) c l n8 n9 in
    rw run at h ∙ other y (place r low_lr) (low a) c (omega (arith, g)) ∙ other m (place r high_lr) v c (omega (arith, g))
