-- Varints: seven bits a byte, lowest first, the top bit set on all bytes but the last (unsigned LEB128).
--     spell, spell_within    the bytes of a length; with at most n bytes before the last
--     IsSpelledAt            bytes begin with the varint of this length
--     IsSpelling, IsContinued     bytes are the varint of a number, by their first byte: it ends there, or goes on
--     AreHigh                bytes of which each says that another follows
--     HasNoLength, IsOpen    no varint is at the front; more bytes could still make one
use Rattle.std.specs.Prelude.{◌≡◌, ℕ, zero, suc, ◌+◌, ◌/◌, ◌%◌, ◌*◌, ◌^◌, ◌<◌, ◌≤◌, nat_lt, if◌then◌else◌, List, [], ◌∷◌, length, take}

-- the varint of a number, with at most this many bytes before the last
abbrev pub spell_within : ℕ → ℕ → List ℕ
spell_within zero n = n ∷ []
spell_within (suc more) n = if nat_lt n 128 then n ∷ [] else (128 + n % 128) ∷ spell_within more (n / 128)

-- the varint of a length: a number below 2 ^ 64 needs at most nine bytes before the last
unfoldable pub spell : ℕ → List ℕ
spell n = spell_within 9 n

-- the bytes begin with the varint of a length
abbrev pub IsSpelledAt : List ℕ → ℕ → Type 0
IsSpelledAt bytes n = (n < 2 ^ 64) × (take (length (spell n)) bytes ≡ spell n)

-- a byte from 128 on has the low seven bits of a number, and what is after it represents the rest, which isn't 0
pub record IsContinued (b n : ℕ) (IsOfRest : ℕ → Type 0) : Type 0 where
  pub top : 128 ≤ b
  pub byte : b < 256
  pub high : ℕ
  pub some : 0 < high
  pub sum : n + 128 ≡ b + 128 * high
  pub rest : IsOfRest high

-- bytes spell a number, by cases: a byte below 128 is the last, and represents itself; with one from 128 on they go on
abbrev pub IsSpelling : List ℕ → ℕ → Type 0
IsSpelling [] n = ⊥
IsSpelling (b ∷ []) n = (b < 128) × (n ≡ b)
IsSpelling (b ∷ c ∷ bs) n = IsContinued b n (IsSpelling (c ∷ bs))

-- each byte has the top bit set
abbrev pub AreHigh : List ℕ → Type 0
AreHigh [] = Unit {0}
AreHigh (b ∷ bs) = (128 ≤ b) × AreHigh bs

-- the bytes begin with no varint
abbrev pub HasNoLength : List ℕ → Type 0
HasNoLength bytes = (n : ℕ) → IsSpelledAt bytes n → ⊥

-- a varint may have begun, and has not ended
abbrev pub IsOpen : List ℕ → Type 0
IsOpen bytes = (length bytes < 10) × AreHigh bytes
