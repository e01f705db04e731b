-- The pages of the lists of heads: of a processor, of each processor, of a range of heads, and of all.
use Prim.Native.Nat.{ℕ, zero, suc, ◌+◌}
use mathlib.Core.Path.{◌≡◌, refl, sym, ap, ◌∙◌}
use mathlib.Core.List.{List, [], ◌∷◌, ◌++◌}
use Rattle.std.specs.Prelude.{Option, Some, None}
use Rattle.std.specs.List.{range_with_len}
use Rattle.std.specs.Option.{option_and_then}
use Rattle.model.specs.Map.{place, own_queue}
use Rattle.model.specs.Lists.{Lists, range, mails, owns}
use Rattle.lists.specs.Seen as Seen
use Rattle.lists.specs.Seen.{onward, see_all, see_lists}
use Rattle.lists.proofs.Onward.{onward_on, onward_off, onward_append}

module _ (L : Lists) where
  abbrev add : ℕ → ℕ → Option ℕ
  add b a = see_all b (L a)

  -- the last list
  one_list : (b a : ℕ) (o : Option ℕ) → o ≡ add b a → o ≡ see_lists L b (a ∷ [])
  unfolding Seen.onward
  one_list b a o e = e ∙ go (add b a)
    where
      go : (k : Option ℕ) → k ≡ option_and_then (λ c. Some c) k
      go None = refl
      go (Some c) = refl

  pub mails_each : (ps : List ℕ) (b : ℕ) → onward (λ c p. see_lists L c (mails (p ∷ []))) b ps ≡ see_lists L b (mails ps)
  unfolding Seen.onward
  mails_each [] b = refl
  mails_each (p ∷ ps) b = go (λ c. mails_each ps c) (see_lists L b (mails (p ∷ []))) ∙ sym (onward_append add (mails (p ∷ [])) (mails ps) b)
    where
      go : ((c : ℕ) → onward (λ d q. see_lists L d (mails (q ∷ []))) c ps ≡ see_lists L c (mails ps)) → (o : Option ℕ)
          → option_and_then (λ c. onward (λ d q. see_lists L d (mails (q ∷ []))) c ps) o ≡ option_and_then (λ c. see_lists L c (mails ps)) o
      go k None = refl
      go k (Some c) = k c

  pub owns_each : (ps : List ℕ) (b : ℕ) → onward (λ c p. see_all c (L (place p own_queue))) b ps ≡ see_lists L b (owns ps)
  unfolding Seen.onward
  owns_each [] b = refl
  owns_each (p ∷ ps) b = go (λ c. owns_each ps c) (add b (place p own_queue))
    where
      go : ((c : ℕ) → onward (λ d q. see_all d (L (place q own_queue))) c ps ≡ see_lists L c (owns ps)) → (o : Option ℕ)
          → option_and_then (λ c. onward (λ d q. see_all d (L (place q own_queue))) c ps) o ≡ option_and_then (λ c. see_lists L c (owns ps)) o
      go k None = refl
      go k (Some c) = k c

  -- heads by steps of d
  pub range_each : (head : ℕ → ℕ) (d : ℕ) → ((k : ℕ) → head (k + 1) ≡ head k + d) → (n i b : ℕ)
      → onward (λ c k. see_all c (L (head k))) b (range_with_len i n) ≡ see_lists L b (range n d (head i))
  unfolding Seen.onward range
  range_each head d s zero i b = refl
  range_each head d s (suc n) i b = go (λ c. range_each head d s n (i + 1) c) (add b (head i))
    where
      go : ((c : ℕ) → onward (λ e k. see_all e (L (head k))) c (range_with_len (i + 1) n) ≡ see_lists L c (range n d (head (i + 1)))) → (o : Option ℕ)
          → option_and_then (λ c. onward (λ e k. see_all e (L (head k))) c (range_with_len (i + 1) n)) o
          ≡ option_and_then (λ c. see_lists L c (range n d (head i + d))) o
      go k None = refl
      go k (Some c) = k c ∙ ap (λ a. see_lists L c (range n d a)) (s i)

-- ---- a head more, and a list of heads more, a law for each way; z is where the code begins
module _ (L : Lists) (b z : ℕ) (ez : z ≡ b) where
  module _ (a x : ℕ) (hs : List ℕ) (ex : x ≡ a) (o : Option ℕ) (eo : o ≡ see_all z (L x)) where
    first : see_all b (L a) ≡ o
    first = ap (λ y. see_all y (L a)) (sym ez) ∙ ap (λ y. see_all z (L y)) (sym ex) ∙ sym eo

    pub head_none : o ≡ None → {r : Option ℕ} → r ≡ None → r ≡ see_lists L b (a ∷ hs)
    head_none h er = er ∙ sym (onward_off (add L) a hs b (first ∙ h))

    pub head_some : {c : ℕ} → o ≡ Some c → {r : Option ℕ} → r ≡ see_lists L c hs → r ≡ see_lists L b (a ∷ hs)
    head_some {c} h er = er ∙ sym (onward_on (add L) a hs b c (first ∙ h))

  module _ (xs ys : List ℕ) (o : Option ℕ) (eo : o ≡ see_lists L z xs) where
    both_lists : see_lists L b (xs ++ ys) ≡ option_and_then (λ c. see_lists L c ys) o
    both_lists =
        onward_append (add L) xs ys b
        ∙ ap (λ y. option_and_then (λ c. see_lists L c ys) (see_lists L y xs)) (sym ez)
        ∙ ap (option_and_then (λ c. see_lists L c ys)) (sym eo)

    pub more_none : o ≡ None → {r : Option ℕ} → r ≡ None → r ≡ see_lists L b (xs ++ ys)
    more_none h er = er ∙ sym (both_lists ∙ ap (option_and_then (λ c. see_lists L c ys)) h)

    pub more_some : {c : ℕ} → o ≡ Some c → {r : Option ℕ} → r ≡ see_lists L c ys → r ≡ see_lists L b (xs ++ ys)
    more_some h er = er ∙ sym (both_lists ∙ ap (option_and_then (λ e. see_lists L e ys)) h)

pub last_head : (L : Lists) (b a x : ℕ) (o : Option ℕ) → x ≡ a → o ≡ see_all b (L x) → o ≡ see_lists L b (a ∷ [])
last_head L b a x o ex eo = one_list L b a o (eo ∙ ap (λ y. see_all b (L y)) ex)
