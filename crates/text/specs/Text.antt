-- Lines, fields and numbers of a text, read and written: R15.3, R15.4 and R15.9 of docs/RULES.md. A text is the list of its bytes, in ASCII.
-- Assumes nothing.
use Rattle.std.specs.Prelude.{Bool, true, false, not, cond, ◌&&◌, ◌||◌, List, [], ◌∷◌, ◌++◌, ℕ, zero, suc, ◌+◌, ◌-◌, ◌*◌, ◌/◌, ◌%◌, leb, ltb, eqb, length, take, drop, Option, Some, None}
use Prim.Native.Char.{code}
use Prim.Native.String as string
use Prim.Native.String.{String}

-- the bytes of a text that is written out here
unfoldable pub ascii : String → List ℕ
ascii string.[] = []
ascii (string.◌∷◌ c s) = code c ∷ ascii s

abbrev pub line_feed : ℕ
line_feed = 10

abbrev pub space : ℕ
space = 32

-- ---- lines and fields

-- a byte put before the first of some texts
unfoldable pub onto : ℕ → List (List ℕ) → List (List ℕ)
onto b [] = (b ∷ []) ∷ []
onto b (line ∷ others) = (b ∷ line) ∷ others

-- R15.3: the lines of a text, without their line feeds. After the last line there may be one or none.
unfoldable pub lines : List ℕ → List (List ℕ)
lines [] = []
lines (b ∷ bs) = cond (eqb b line_feed) ([] ∷ lines bs) (onto b (lines bs))

-- how many bytes stand before the first that is b; all do if none is
unfoldable pub before : ℕ → List ℕ → ℕ
before b [] = 0
before b (x ∷ xs) = cond (eqb x b) 0 (suc (before b xs))

-- R15.4: the first field of a text, up to the first space, and the text after that space
unfoldable pub first_field : List ℕ → List ℕ
first_field xs = take (before space xs) xs

unfoldable pub rest_after_field : List ℕ → List ℕ
rest_after_field xs = drop (suc (before space xs)) xs

-- the text after its first k fields
unfoldable pub after_fields : ℕ → List ℕ → List ℕ
after_fields zero xs = xs
after_fields (suc k) xs = rest_after_field (after_fields k xs)

-- field number k, counted from 0
abbrev pub field : ℕ → List ℕ → List ℕ
field k xs = first_field (after_fields k xs)

-- ---- numbers

-- the text has only bytes that pass a test
unfoldable pub only : (ℕ → Bool) → List ℕ → Bool
only test [] = true
only test (x ∷ xs) = test x && only test xs

-- the digits 0 to 9, and the hexadecimal ones of R15.9, 0 to 9 and a to f
unfoldable pub digit : ℕ → Bool
digit b = leb 48 b && leb b 57

unfoldable pub hex_digit : ℕ → Bool
hex_digit b = digit b || (leb 97 b && leb b 102)

-- the value of such a digit
unfoldable pub digit_value : ℕ → ℕ
digit_value b = cond (leb b 57) (b - 48) (b - 87)

-- the number that digits write, after leading digits that write `leading`
unfoldable pub value : (base leading : ℕ) (text : List ℕ) → ℕ
value base leading [] = leading
value base leading (x ∷ xs) = value base (leading * base + digit_value x) xs

unfoldable pub empty : List ℕ → Bool
empty [] = true
empty (x ∷ xs) = false

-- R15.4: one decimal digit or more, and a zero in front only if it is all of the number
unfoldable pub plain_number : List ℕ → Bool
plain_number [] = false
plain_number (x ∷ xs) = only digit (x ∷ xs) && (not (eqb x 48) || empty xs)

-- a plain number of at most a limit
unfoldable pub plain_up_to : (limit : ℕ) (text : List ℕ) → Bool
plain_up_to limit xs = plain_number xs && leb (value 10 0 xs) limit

-- the field that starts at an index of a text, read as a plain number of at most a limit: its value, and the index at which the next field starts
unfoldable pub number_at : (limit : ℕ) (text : List ℕ) (at : ℕ) → Option (ℕ × ℕ)
number_at limit text at =
    cond (plain_up_to limit (first_field (drop at text)))
    (Some (value 10 0 (first_field (drop at text)), at + length (first_field (drop at text)) + 1))
    None

-- R15.9: so many hexadecimal digits, and no more
unfoldable pub hex : ℕ → List ℕ → Bool
hex k xs = eqb (length xs) k && only hex_digit xs

-- the 64-bit word that 16 of them write
unfoldable pub word_in : List ℕ → Option ℕ
word_in xs = cond (hex 16 xs) (Some (value 16 0 xs)) None

-- ---- writing

-- the plain number that stands for x, in at most so many digits. Twenty are enough for 64 bits.
unfoldable pub spelled : ℕ → ℕ → List ℕ
spelled zero x = []
spelled (suc k) x = cond (ltb x 10) ((48 + x) ∷ []) (spelled k (x / 10) ++ ((48 + x % 10) ∷ []))

unfoldable pub decimal : ℕ → List ℕ
decimal x = spelled 20 x

-- a text written over a buffer from index `at` on, if the buffer has room for the whole of it there, and where it ends then
unfoldable pub has_room : (at : ℕ) (text out : List ℕ) → Bool
has_room at text out = leb (at + length text) (length out)

unfoldable pub written : (at : ℕ) (text out : List ℕ) → List ℕ
written at text out = cond (has_room at text out) (take at out ++ (text ++ drop (at + length text) out)) out

unfoldable pub end : (at : ℕ) (text out : List ℕ) → ℕ
end at text out = cond (has_room at text out) (at + length text) at
