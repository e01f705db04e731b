-- Which words differ: what is compared of a message has in it all that a reader gets of it. So where two queues hold the same messages, the same letters wait
-- in them, in the same order. Assumes nothing.
use Rattle.std.specs.Prelude.{ℕ, zero, suc, ◌≡◌, refl, List, [], ◌∷◌, map, eqb}
use Rattle.std.proofs.Common.{ap, sym, ◌∙◌}
use Rattle.model.specs.Map.{upper, lower, length_in, notice}
use Rattle.model.specs.Address.{wrapped}
use Rattle.model.specs.Differ as Differ
use Rattle.model.specs.Bytes.{queue, words_from, message_of, messages}
use Rattle.history.specs.Letter as Letter
use Rattle.history.specs.Letter.{Letter, words, mail_of}

words_from_lem : (n : ℕ) (m : List ℕ) (a : ℕ) → words m a n ≡ words_from n m a
unfolding Letter.words Differ.words_from
words_from_lem zero m a = refl
words_from_lem (suc n) m a = rw (words_from_lem n m (wrapped a 1))

-- the letter of a message, from what is compared of it: word 1, word 2, text
abbrev letter_of : List ℕ → Letter
letter_of [] = record { notice = eqb 0 notice; sender = 0; flag = 0; size = 0; text = [] }
letter_of (w ∷ []) = record { notice = eqb 0 notice; sender = upper w; flag = lower w; size = 0; text = [] }
letter_of (w ∷ s ∷ ts) = record { notice = eqb s notice; sender = upper w; flag = lower w; size = length_in s; text = ts }

letter_is : (m : List ℕ) (q : ℕ) → mail_of m q ≡ letter_of (message_of m q)
unfolding Letter.mail_of Differ.message_of Differ.content_of
letter_is m q = rw (words_from_lem _ m _)

letters_of : (m : List ℕ) (qs : List ℕ) → map (mail_of m) qs ≡ map letter_of (map (message_of m) qs)
letters_of m [] = refl
letters_of m (q ∷ qs) = rw (letter_is m q, letters_of m qs)

pub same_letters : (m : List ℕ) (h : ℕ) (k : List ℕ) (g : ℕ) → messages m h ≡ messages k g → map (mail_of m) (queue m h) ≡ map (mail_of k) (queue k g)
unfolding Differ.messages
same_letters m h k g e = letters_of m (queue m h) ∙ ap (map letter_of) e ∙ sym (letters_of k (queue k g))
