-- What the steps of the model mean, for the reader of the laws: the judge accepts a memory exactly where the lists fit together, and each step does to the
-- lists what its name says. `Inv` is the invariant between calls, `Base` in the midst of one, with pages in hand (laws/specs/Inv.antt); `Becomes` says that one
-- list changes and no other. Each statement is followed by its proof. Assumes nothing.
use Rattle.std.specs.Prelude.{◌≡◌, ◌≢◌, true, List, [], ◌∷◌, ◌++◌, ℕ, ◌+◌, ◌≤◌, length}
use Rattle.model.specs.Map.{memory_size, place, q1, own_queue, free_list, page_queue, processor_list, wait_in}
use Rattle.model.specs.Lists.{count, Lists, uses, queues}
use Rattle.model.specs.Rule.{Rule}
use Rattle.model.specs.Tell.{broken}
use Rattle.model.specs.Bytes.{lists, judged, name, join, leave, give_back, deliver, put_to_wait, wake}
use Rattle.laws.specs.Uses.{Head}
use Rattle.laws.specs.Places.{InUses}
use Rattle.laws.specs.Inv.{View, view, Message, Base, Inv}
use Rattle.laws.specs.Accepted.{judge_inv}
use Rattle.laws.specs.Judged.{inv_judge}
use Rattle.laws.specs.Tells.{Breaks, breaks_of, of_breaks}
use Rattle.laws.specs.Waits.{Fit}
use Rattle.laws.specs.Witness.{InHand, InHandMessage, InHandAsked, example_hand, example_message, example_asked}
use Rattle.laws.specs.ListSteps.{Becomes, join_appends, leave_takes, give_frees, Grants, give_grants, deliver_appends, wait_appends, wake_takes}

-- ---- the judge accepts a memory exactly where the lists fit together
pub judge_says : (m : List ℕ) → length m ≡ memory_size → judged m ≡ true → Inv m (lists m processor_list) (lists m) (view m)
judge_says = judge_inv

pub judge_must : {m : List ℕ} {ps : List ℕ} {L : Lists} {W : View} → Inv m ps L W → judged m ≡ true
judge_must = inv_judge

-- ---- an address offends exactly if one of those that its row speaks of breaks the rule, and tells it: `Breaks` (laws/specs/Tells.antt)
pub offends_means : (address : ℕ → ℕ) (rule : ℕ → Rule) (whom : List ℕ) (b : ℕ) → 1 ≤ count b (broken address rule whom) → Breaks address rule whom b
offends_means = breaks_of

pub offends_must : (address : ℕ → ℕ) (rule : ℕ → Rule) (whom : List ℕ) (b : ℕ) → Breaks address rule whom b → 1 ≤ count b (broken address rule whom)
offends_must = of_breaks

-- ---- the steps mean what they say, of a memory with the page q in hand (below there is one); no other list changes
module _ {m : List ℕ} {ps : List ℕ} {L : Lists} {W : View} {hs : List ℕ} {g q : ℕ} (b : Base m ps L W (q ∷ hs) g) where
  pub joining : (a : ℕ) → Head ps a → InUses ps a → a ≢ processor_list → Becomes ps m (join m a 0 q) a (lists m a ++ q ∷ [])
  joining = join_appends b

  pub giving_back_frees : lists m page_queue ≡ [] → Becomes ps m (give_back m q) free_list (lists m free_list ++ q ∷ [])
  giving_back_frees = give_frees b

  pub giving_back_grants : (p : ℕ) (ws : List ℕ) → lists m page_queue ≡ p ∷ ws → Grants ps m (give_back m q) (name m p) q ws
  giving_back_grants = give_grants b

  pub delivering : (p : ℕ) → 1 ≤ count p ps → Message (W.note q) (W.size q) → (lists (deliver m p q) (place p q1) ≡ lists m (place p q1) ++ q ∷ [])
      × ((c : ℕ) → 1 ≤ count c (uses ps ++ queues ps) → c ≢ place p q1 → c ≢ place p own_queue → lists (deliver m p q) c ≡ lists m c)
  delivering = deliver_appends b

pub leaving : {m : List ℕ} {ps : List ℕ} {L : Lists} {W : View} {hs : List ℕ} {g : ℕ} → Base m ps L W hs g → (a q : ℕ) (xs ys : List ℕ) → Head ps a
    → a ≢ processor_list → lists m a ≡ xs ++ q ∷ ys → Becomes ps m (leave m a 0 q) a (xs ++ ys)
leaving = leave_takes

pub waiting_joins : {m : List ℕ} {ps : List ℕ} {L : Lists} {W : View} {hs : List ℕ} {g : ℕ} → Base m ps L W hs g → (s p w : ℕ)
    → 1 ≤ count (s + 1) (queues ps) → 1 ≤ count p ps → wait_in (W.state p) ≡ 0 → Fit ps L W s p w
    → Becomes ps m (put_to_wait m s p w) (s + 1) (lists m (s + 1) ++ p ∷ [])
waiting_joins = wait_appends

pub waking_leaves : {m : List ℕ} {ps : List ℕ} {L : Lists} {W : View} {hs : List ℕ} {g : ℕ} → Base m ps L W hs g → (s p : ℕ) (xs ys : List ℕ)
    → 1 ≤ count (s + 1) (queues ps) → lists m (s + 1) ≡ xs ++ p ∷ ys → Becomes ps m (wake m s p) (s + 1) (xs ++ ys)
waking_leaves = wake_takes

-- ---- the premises can be met: from a fresh start on a memory of zeros pages come in hand, one of them a message, one while a processor waits for a page
pub in_hand_example : InHand
in_hand_example = example_hand

pub message_example : InHandMessage
message_example = example_message

pub asked_example : InHandAsked
asked_example = example_asked
