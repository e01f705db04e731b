-- The sizes of the script language and the characters that mean something in it, as src/sizes.rt has the sizes for the code.
use Rattle.std.specs.Prelude.{ℕ}

-- "A line of over 255 characters is not understood."
abbrev pub longest_line : ℕ
longest_line = 255

-- "numbers are digits only, 0 to 65535"
abbrev pub largest_number : ℕ
largest_number = 65535

-- "1 to 32 values", behind an address
abbrev pub most_values : ℕ
most_values = 32

-- `burst`: "as many numbers as a line of 255 characters holds", behind its five letters, each with a space before it
abbrev pub most_numbers : ℕ
most_numbers = 125

-- "parted by spaces"; "#"; the digit 0
abbrev pub space : ℕ
space = 32

abbrev pub sharp : ℕ
sharp = 35

abbrev pub digit0 : ℕ
digit0 = 48
