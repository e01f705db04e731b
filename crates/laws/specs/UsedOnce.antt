-- Well-formed: "every control page is used once": as a processor, as a free page, as a message in one queue, or as a grant. Said by counting in the lists
-- of each use. Assumes nothing.
use Rattle.std.specs.Prelude.{◌≡◌, ◌⊎◌, List, [], ◌∷◌, ◌++◌, get_or}
use Rattle.std.proofs.Math.Path.{refl, ap}
use Rattle.std.proofs.Common.{◌∙◌, inl, inr}
use Prim.Native.Nat.{ℕ, zero, suc, ◌+◌, ◌-◌, ◌≤◌, ◌<◌}
use native.Mathlib.Omega.{arith}
use Rattle.model.specs.Map.{control_pages, first_control, free_list, grant_for, grants, grants_end, last_control, link, page_size, place, q1, q2}
use Rattle.model.specs.Lists as Model
use Rattle.model.specs.Lists.{count, Lists, sum, range, some, mails}
use Rattle.model.specs.Bytes.{processors, queue}
use Rattle.laws.specs.Count.{hit_self, count_append}
use Rattle.laws.specs.Chain.{walk_chain}
use Rattle.laws.specs.Heads.{one, one_page, page_one, sum_append, grant_words}
use Rattle.laws.specs.Uses.{list_short}
use Rattle.laws.specs.Places.{in_free, grant_low}
use Rattle.laws.specs.Inv.{View, Base}
use Rattle.laws.specs.Judged.{invariant}
use Rattle.laws.specs.JoinLeave.{chain0}
use Rattle.laws.specs.Who.{listed}
use Rattle.laws.specs.Mails.{mail_queue}
use Rattle.laws.specs.Calls.{Sound, well}

-- the messages of the processors ps, in Q1 and Q2
abbrev pub mail_of : List ℕ → List ℕ → List ℕ
mail_of m [] = []
mail_of m (p ∷ ps) = queue m (place p q1) ++ (queue m (place p q2) ++ mail_of m ps)

-- the pages in n words from a on
abbrev pub pages_in : ℕ → List ℕ → ℕ → List ℕ
pages_in zero m a = []
pages_in (suc n) m a = some (get_or m a 0) ++ pages_in n m (a + 1)

-- ---- the four uses
abbrev pub as_processor : List ℕ → ℕ → ℕ
as_processor m z = count z (processors m)

abbrev pub as_free : List ℕ → ℕ → ℕ
as_free m z = count z (queue m free_list)

abbrev pub as_message : List ℕ → ℕ → ℕ
as_message m z = count z (mail_of m (processors m))

abbrev pub as_grant : List ℕ → ℕ → ℕ
as_grant m z = count z (pages_in page_size m grants)

module _ {m : List ℕ} {ps : List ℕ} {L : Lists} {W : View} {g : ℕ} (b : Base m ps L W [] g) where
  in_mail : (z : ℕ) (qs : List ℕ) → ((p : ℕ) → 1 ≤ count p qs → 1 ≤ count p ps) → count z (mail_of m qs) ≡ sum z L (mails qs)
  in_mail z [] f = refl
  in_mail z (p ∷ qs) f =
      let h = f p (omega (arith, hit_self p)) in
      omega (
        arith,
        count_append z (queue m (place p q1)) (queue m (place p q2) ++ mail_of m qs),
        count_append z (queue m (place p q2)) (mail_of m qs),
        in_mail z qs (λ y i. f y (omega arith)),
        ap (count z) (mail_queue b p q1 h (omega arith) (omega arith)),
        ap (count z) (mail_queue b p q2 h (omega arith) (omega arith)),
      )

  granted : (z n a : ℕ) → grants ≤ a → a + n ≤ grants_end → count z (pages_in n m a) ≡ sum z L (range n 1 a)
  unfolding Model.range
  granted z zero a l u = refl
  granted z (suc n) a l u =
      let e : grant_for (a - grants) ≡ a = omega arith in
      let c = rw e at (b.mem.holds.grant (a - grants) (omega arith)) in
      omega (arith, count_append z (some (get_or m a 0)) (pages_in n m (a + 1)), granted z n (a + 1) (omega arith) (omega arith), ap (count z) c)

  free : queue m free_list ≡ L free_list
  free =
      let s = b.facts.sep in
      walk_chain control_pages m link free_list (L free_list) (chain0 s b.mem free_list (in_free ps, grant_low free_list (omega arith)) (omega arith))
      (list_short s free_list (in_free ps))

  pub four : (z : ℕ) → as_processor m z + as_free m z + as_message m z + as_grant m z ≡ one z
  four z =
      omega (
        arith,
        b.all z,
        ap (count z) (listed b),
        ap (count z) b.facts.sep.procs,
        ap (count z) free,
        ap (λ (qs : List ℕ). count z (mail_of m qs)) (listed b),
        in_mail z ps (λ p i. i),
        granted z page_size grants (omega arith) (omega arith),
        sum_append z L (mails ps) grant_words,
      )

-- each control page has exactly one of the four uses
pub used_once_lem : {m : List ℕ} → Sound m → (z : ℕ) → first_control ≤ z → z ≤ last_control → as_processor m z + as_free m z + as_message m z + as_grant m z ≡ 1
used_once_lem h z l u = four (invariant (well h)).base z ∙ page_one z (l, omega arith)

-- no other number is a page of any list
pub used_never : {m : List ℕ} → Sound m → (z : ℕ) → (z < first_control) ⊎ (last_control < z) → as_processor m z + as_free m z + as_message m z + as_grant m z ≡ 0
used_never h z o = four (invariant (well h)).base z ∙ none (one z) refl o
  where
    none : (n : ℕ) → one z ≡ n → (z < first_control) ⊎ (last_control < z) → n ≡ 0
    none zero e q = refl
    none (suc n) e (inl q) = let p = one_page z (omega arith) in absurd (omega (arith, p))
    none (suc n) e (inr q) = let p = one_page z (omega arith) in absurd (omega (arith, p))
