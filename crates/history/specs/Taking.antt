-- Pages: "SME and CRP use the page granted to them, else the first free one", and with none they wait for a page. Q1 and Q2 of every processor stay, and so
-- does every unprotected word. Assumes nothing.
use Rattle.std.specs.Prelude.{◌≡◌, ◌≢◌, List, [], ℕ, length, get_or}
use Rattle.std.proofs.Common.{arith}
use Rattle.model.specs.Map.{free_list, free_semaphore, grant_for, processor_list}
use Rattle.model.specs.Bytes.{name, running, lists, take_page, waits_for_page}
use Rattle.model.specs.Page.Taken.{took}
use Rattle.model.specs.Operate as Operate
use Rattle.model.specs.Answer.{memory_of}
use Rattle.model.specs.Lists.{Lists}
use Rattle.laws.specs.Places.{in_free, all_pages_lem}
use Rattle.laws.specs.Inv.{View, Base}
use Rattle.laws.specs.Judged.{WellFormed}
use Rattle.laws.specs.Changes.{page_sem}
use Rattle.laws.specs.Grants.{taken_word}
use Rattle.laws.specs.Who.{busy}
use Rattle.laws.specs.Simple.{Open}
use Rattle.laws.specs.Waits.{page_fit}
use Rattle.history.specs.Letter.{Same}
use Rattle.history.specs.Calm.{ours_free, ours_low}
use Rattle.history.specs.Told.{calm_waits}

module _ {m : List ℕ} {ps : List ℕ} {L : Lists} {W : View} {hs : List ℕ} {g : ℕ} (b : Base m ps L W hs g) (p q : ℕ) (m1 : List ℕ)
    (e : take_page m p ≡ took q m1) where
  -- an unprotected word stays
  pub takes_word : (c : ℕ) → Open c → get_or m1 c 0 ≡ get_or m c 0
  takes_word c o =
      let u = o.below in
      taken_word b c (record {
        low = λ a x y. o.between a (omega arith) (omega arith);
        free = λ z j. let t = all_pages_lem b.facts.sep free_list z (in_free ps) j in omega arith;
        grant = λ k x. o.between (grant_for k) (omega arith) (omega arith);
      }) p q m1 e

  pub calm_takes : Same ps L m m1
  calm_takes = let s = b.facts.sep in record {
    at = λ c i. taken_word b c (record {
      low = λ a x y. ours_low s i a (omega arith) (omega arith);
      free = ours_free s i;
      grant = λ k x. ours_low s i (grant_for k) (omega arith) (omega arith);
    }) p q m1 e;
  }

-- ---- of a well-formed memory where someone runs
module _ {m : List ℕ} (w : WellFormed m) (d : running m ≢ 0) where
  open busy w d use {base as b, ready}

  -- "with none, they wait in the page queue, LR staying"
  pub page_waits_lem : lists m free_list ≡ [] → length (lists m (grant_for (name m (running m)))) ≡ 0
      → Same (lists m processor_list) (lists m) m (memory_of (waits_for_page m))
  unfolding Operate.waits_for_page
  page_waits_lem f g = calm_waits b free_semaphore 0 d (page_sem (lists m processor_list)) (omega (arith, ready)) (page_fit b.facts.sep f g)
