-- The lines that are still to be told are the last of those of the two memories.
use Rattle.std.proofs.Common.{◌≡◌, refl, ◌∙◌, List, [], ◌∷◌, ◌++◌}
use Rattle.model.specs.Told.{Line}

pub record Ends (xs ys : List Line) : Type 0 where
  pub front : List Line
  pub is : front ++ xs ≡ ys

pub ends_all : (xs ys : List Line) → xs ≡ ys → Ends xs ys
ends_all xs ys e = record { front = []; is = e }

behind : (f xs : List Line) (x : Line) → (f ++ (x ∷ [])) ++ xs ≡ f ++ (x ∷ xs)
behind [] xs x = refl
behind (y ∷ f) xs x = rw (behind f xs x)

pub ends_on : (xs ys zs : List Line) (x : Line) → Ends xs ys → xs ≡ x ∷ zs → Ends zs ys
ends_on xs ys zs x h e = record { front = h.front ++ (x ∷ []); is = behind h.front zs x ∙ rw e at h.is }

pub ruleset telling = (ends_all, ends_on)
