-- Who runs.
use Rattle.std.specs.Prelude.{ℕ, zero, suc, Bool, true, cond, List, [], ◌∷◌, eqb, ltb, get_or}
use Rattle.model.specs.declared.Context.{Context}
use Rattle.model.specs.Store.{Store}
use Rattle.model.specs.Map.{label, running_page, running_label, zero_place, keeps, kept_count}
use Rattle.model.specs.Address.{word, store, at, write}
use Rattle.model.specs.Queue.{processors}
use Rattle.model.specs.Processor.{priority, ready, running, registers_of}

-- g over a list, from t on
unfoldable pub fold : {A : Type 0} → (A → ℕ → A) → A → List ℕ → A
fold g t [] = t
fold g t (x ∷ xs) = fold g (g t x) xs

-- nineteen words
abbrev pub nineteen : (ℕ → ℕ) → List ℕ
nineteen f =
    f 0 ∷ f 1 ∷ f 2 ∷ f 3 ∷ f 4 ∷ f 5 ∷ f 6 ∷ f 7 ∷ f 8 ∷ f 9
    ∷ f 10 ∷ f 11 ∷ f 12 ∷ f 13 ∷ f 14 ∷ f 15 ∷ f 16 ∷ f 17 ∷ f 18 ∷ []

module _ (S : Store) where
  -- "the running one stays if ready"; 0: nobody
  unfoldable pub stays : S.M → ℕ → ℕ
  stays m r = cond (eqb r 0) 0 (cond (ready S m r) r 0)

  -- "no ready one has higher priority": p's is above b's; page 0 is below all
  unfoldable pub above : S.M → ℕ → ℕ → Bool
  above m b p = cond (eqb b 0) true (ltb (priority S m b) (priority S m p))

  -- p if it is ready and above b, else b
  unfoldable pub better : S.M → ℕ → ℕ → ℕ
  better m b p = cond (ready S m p) (cond (above m b p) p b) b

  -- "else the first on the processor list of the highest ready priority; else nobody"
  unfoldable pub chosen : S.M → ℕ
  chosen m = fold (better m) (stays m (running S m)) (processors S m)

  -- "13-15 and 16-31 keep words 4-6 and 16-31 of page 0 while another runs": the nineteen words on page 0, and those that page p keeps
  unfoldable pub on_page0 : S.M → List ℕ
  on_page0 m = nineteen (λ i. at S m (zero_place i))

  unfoldable pub kept_on : S.M → ℕ → List ℕ
  kept_on m p = nineteen (λ i. word S m p (keeps i))

  -- a processor's context: while it runs, and while another runs
  unfoldable pub context_of : S.M → ℕ → Context
  context_of m p = record { registers = registers_of S m p; words = on_page0 m }

  unfoldable pub saved_of : S.M → ℕ → Context
  saved_of m p = record { registers = registers_of S m p; words = kept_on m p }

  -- the first n of the words w go to page p, to page 0
  unfoldable pub kept : ℕ → S.M → ℕ → List ℕ → S.M
  kept zero m p w = m
  kept (suc n) m p w = kept n (store S m p (keeps n) (get_or w n 0)) p w

  unfoldable pub restored : ℕ → S.M → List ℕ → S.M
  restored zero m w = m
  restored (suc n) m w = restored n (write S m (zero_place n) (get_or w n 0)) w

  -- "On a change page 0's words are saved to the old page, then loaded from the new."
  unfoldable pub save : S.M → ℕ → S.M
  save m p = cond (eqb p 0) m (kept kept_count m p (on_page0 m))

  unfoldable pub load : S.M → ℕ → S.M
  load m p = cond (eqb p 0) m (restored kept_count m (kept_on m p))

  -- "24 running page (0: idle), 25 running priority and name (0: idle)"
  unfoldable pub runs : S.M → ℕ → S.M
  runs m p = write S (write S m running_page p) running_label (cond (eqb p 0) 0 (word S m p label))

  unfoldable pub switch : S.M → ℕ → ℕ → S.M
  switch m old new = cond (eqb old new) m (runs (load (save m old) new) new)

  -- "Who runs, after each call"
  unfoldable pub who_runs : S.M → S.M
  who_runs m = switch m (running S m) (chosen m)
