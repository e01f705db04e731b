-- Giving a page back and delivering a message leave the words of every other page in hand as they are. Assumes nothing.
use Rattle.std.specs.Prelude.{◌≡◌, ◌≢◌, List, ◌∷◌, ℕ, ◌≤◌, ◌<◌}
use Rattle.std.proofs.Common.{ap, arith}
use Rattle.model.specs.Map.{free_list, link, page_queue, page_size, place, q1}
use Rattle.model.specs.Bytes.{word, give_back, deliver}
use Rattle.model.specs.Lists.{count, Lists}
use Rattle.laws.specs.Count.{hit_self, count_ne}
use Rattle.laws.specs.Chain.{Page}
use Rattle.laws.specs.Heads.{one_le}
use Rattle.laws.specs.Uses.{Among, Sep}
use Rattle.laws.specs.Places.{in_free, in_q, wait_page}
use Rattle.laws.specs.Inv.{View, Message, Base}
use Rattle.laws.specs.Changes.{hand_page, hand_out, hand_free}
use Rattle.laws.specs.Grants.{give_frame}
use Rattle.laws.specs.Post.{deliver_frame}

-- page y is no processor's and in no list
pub record Aside (ps : List ℕ) (L : Lists) (y : ℕ) : Type 0 where
  pub page : Page y
  pub out : count y ps ≡ 0
  pub free : (a : ℕ) → Among ps a → count y (L a) ≡ 0

pub aside_hand : {m : List ℕ} {ps : List ℕ} {L : Lists} {W : View} {hs : List ℕ} {g : ℕ} → Base m ps L W hs g → (y : ℕ) → 1 ≤ count y hs → Aside ps L y
aside_hand b y h = record { page = hand_page b y h; out = hand_out b y h; free = hand_free b y h }

module _ {ps : List ℕ} {L : Lists} {y : ℕ} (o : Aside ps L y) where
  not_proc : (p : ℕ) → 1 ≤ count p ps → p ≢ y
  not_proc p h e = omega (arith, ap (λ (z : ℕ). count z ps) e, o.out)

  not_link : (j : ℕ) → j < page_size → (a z : ℕ) → Among ps a → 1 ≤ count z (L a) → place y j ≢ place z link
  not_link j l a z h i = let d = count_ne z y (L a) (o.free a h) i in omega arith

-- ---- give back, deliver
module _ {m : List ℕ} {ps : List ℕ} {L : Lists} {W : View} {hs : List ℕ} {g q : ℕ} (b : Base m ps L W (q ∷ hs) g) (y j : ℕ) (i : 1 ≤ count y hs)
    (l : j < page_size) where
  s : Sep ps L
  s = b.facts.sep

  o : Aside ps L y
  o = aside_hand b y (omega arith)

  not_q : q ≢ y
  not_q e = omega (arith, b.all q, one_le q, hit_self q, ap (λ (z : ℕ). count z hs) e)

  pub give_still : word (give_back m q) y j ≡ word m y j
  give_still = give_frame b (place y j) (record {
    low = λ a u v. omega (arith, o.page);
    grant = λ k u. omega (arith, o.page);
    hand = omega (arith, not_q);
    free = λ z h. not_link o j l free_list z (in_free ps) h;
    waiter = λ p h. let d = not_proc o p (wait_page s page_queue p (omega arith) h) in (omega arith, omega arith, omega arith);
  })

  pub deliver_still : (p : ℕ) → 1 ≤ count p ps → Message (W.note q) (W.size q) → word (deliver m p q) y j ≡ word m y j
  deliver_still p h letter =
      let d = not_proc o p h in
      deliver_frame b p h letter (place y j) (λ k u. omega arith) (omega arith) (omega (arith, not_q))
      (λ z i. not_link o j l (place p q1) z (in_q ps p q1 (omega arith) (omega arith) h) i)
