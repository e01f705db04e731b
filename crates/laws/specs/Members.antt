-- Well-formed: what one processor more on the list adds to the heads of lists and to the names. Assumes nothing.
use Rattle.std.specs.Prelude.{◌≡◌, refl, ◌≢◌, List, [], ◌∷◌, ◌++◌, ℕ, ◌+◌, ◌<◌, eqb}
use Rattle.std.proofs.Common.{ap, append-nil, arith}
use Rattle.model.specs.Map.{grants, header_after, interrupts, own_queue, page_size, place, processor_list, q1, q2}
use Rattle.model.specs.Lists.{hit, count, Lists, sum, each_of, mails, owns, uses, queues}
use Rattle.laws.specs.Count.{count_append}
use Rattle.laws.specs.Chain.{Page}
use Rattle.laws.specs.Heads.{sum_append, range_low, range_none2, Place, grant_words, line_heads}
use Rattle.laws.specs.Heads.Place.{int, three, grant, slot}
use Rattle.laws.specs.Uses.{Among, head_place, Sep, proc_page}
use Rattle.laws.specs.Places.{InUses, none_low}

mails_append : (xs ys : List ℕ) → mails (xs ++ ys) ≡ mails xs ++ mails ys
mails_append [] ys = refl
mails_append (x ∷ xs) ys = ap {B = List ℕ} (λ l. (place x q1) ∷ (place x q2) ∷ l) (mails_append xs ys)

owns_append : (xs ys : List ℕ) → owns (xs ++ ys) ≡ owns xs ++ owns ys
owns_append [] ys = refl
owns_append (x ∷ xs) ys = ap {B = List ℕ} (λ l. (place x own_queue) ∷ l) (owns_append xs ys)

each_append : (f : ℕ → ℕ) (xs ys : List ℕ) → each_of f (xs ++ ys) ≡ each_of f xs ++ each_of f ys
each_append f [] ys = refl
each_append f (x ∷ xs) ys = ap {B = List ℕ} (λ l. f x ∷ l) (each_append f xs ys)

-- ---- the list xs ++ p ∷ ys against xs ++ ys
module _ (xs : List ℕ) (p : ℕ) (ys : List ℕ) where
  -- what adds up over a list of heads, of which g makes some from each page and t are the others
  more : (f : List ℕ → ℕ) → ((k l : List ℕ) → f (k ++ l) ≡ f k + f l) → (g : List ℕ → List ℕ) → ((k l : List ℕ) → g (k ++ l) ≡ g k ++ g l) → (t : List ℕ)
      → f (g (xs ++ p ∷ ys) ++ t) ≡ f (g (xs ++ ys) ++ t) + f (g (p ∷ []))
  more f fa g ga t =
      omega (
        arith,
        fa (g (xs ++ p ∷ ys)) t,
        fa (g (xs ++ ys)) t,
        ap f (ga xs (p ∷ ys)),
        ap f (ga xs ys),
        ap f (ga (p ∷ []) ys),
        fa (g xs) (g (p ∷ ys)),
        fa (g xs) (g ys),
        fa (g (p ∷ [])) (g ys),
      )

  pub count_more : (z : ℕ) → count z (xs ++ p ∷ ys) ≡ count z (xs ++ ys) + hit (eqb z p)
  count_more z = omega (arith, count_append z xs (p ∷ ys), count_append z xs ys)

  pub names_more : (f : ℕ → ℕ) (k : ℕ) → count k (each_of f (xs ++ p ∷ ys)) ≡ count k (each_of f (xs ++ ys)) + hit (eqb k (f p))
  names_more f k =
      omega (
        arith,
        more (count k) (count_append k) (each_of f) (each_append f) [],
        ap (count k) (append-nil (each_of f (xs ++ p ∷ ys))),
        ap (count k) (append-nil (each_of f (xs ++ ys))),
      )

  pub uses_more : (a : ℕ) → count a (uses (xs ++ p ∷ ys)) ≡ count a (uses (xs ++ ys)) + (hit (eqb a (place p q1)) + hit (eqb a (place p q2)))
  uses_more a = omega (arith, more (count a) (count_append a) mails mails_append grant_words)

  pub queues_more : (a : ℕ) → count a (queues (xs ++ p ∷ ys)) ≡ count a (queues (xs ++ ys)) + hit (eqb a (place p own_queue))
  queues_more a = omega (arith, more (count a) (count_append a) owns owns_append line_heads)

  pub uses_sum : (z : ℕ) (L : Lists) → sum z L (uses (xs ++ p ∷ ys)) ≡ sum z L (uses (xs ++ ys)) + (count z (L (place p q1)) + count z (L (place p q2)))
  uses_sum z L = omega (arith, more (sum z L) (sum_append z L) mails mails_append grant_words)

  pub queues_sum : (z : ℕ) (L : Lists) → sum z L (queues (xs ++ p ∷ ys)) ≡ sum z L (queues (xs ++ ys)) + count z (L (place p own_queue))
  queues_sum z L = omega (arith, more (sum z L) (sum_append z L) owns owns_append line_heads)

-- ---- a page that is no processor's has no head
pub head_off : {ps : List ℕ} {L : Lists} → Sep ps L → (q w a : ℕ) → Page q → w < page_size → count q ps ≡ 0 → Among ps a → a ≢ place q w
head_off {ps} s q w a g l n h = go (head_place ps a h)
  where
    go : Place ps a → a ≢ place q w
    go (int k u e) = omega arith
    go (three u v x) = omega arith
    go (grant u v) = omega arith
    go (slot t) =
        let d : t.page ≢ q = λ e. (let c = ap (λ (y : ℕ). count y ps) e in omega (arith, t.proc)) in
        omega (arith, t.is, t.high, d)

-- the processor list's header stands once
pub procs_once : {ps : List ℕ} {L : Lists} → Sep ps L → InUses ps processor_list
procs_once {ps} s = let n = none_low processor_list ps (proc_page s) (omega arith) in record {
  here = omega (arith, n, count_append processor_list (mails ps) grant_words, range_low page_size 1 grants processor_list (omega arith));
  away = omega (arith, n, count_append processor_list (owns ps) line_heads, range_none2 interrupts (header_after 0) processor_list (omega arith));
}
