-- Texts that stand in a JSON string as they are (RFC 8259, section 7).
use Rattle.std.specs.Prelude.{◌≡◌, ℕ, List, Bool, false, not, ◌&&◌, ◌==◌, nat_le, nat_lt}
use Rattle.std.specs.List.{All, list_all}

-- a byte of ASCII that prints, but for the quote and the backslash
abbrev pub is_plain : ℕ → Bool
is_plain x = nat_le 32 x && nat_lt x 127 && not (x == 34) && not (x == 92)

-- each byte is such a byte
abbrev pub are_plain : List ℕ → Bool
are_plain text = list_all is_plain text

-- the text has no quote
abbrev pub NoQuote : List ℕ → Type 0
NoQuote text = All (λ x. (x == 34) ≡ false) text
