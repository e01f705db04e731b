-- The name of the new file.
use Rattle.std.specs.Prelude.{ℕ, List, [], ◌∷◌, ◌++◌}

-- a file's name is at most so long; ".new" behind it
abbrev pub name_room : ℕ
name_room = 4096

abbrev pub new_bytes : ℕ
new_bytes = 4

-- "New contents go to `FILE.new`"
unfoldable pub new_name : List ℕ → List ℕ
new_name f = f ++ 46 ∷ 110 ∷ 101 ∷ 119 ∷ []
