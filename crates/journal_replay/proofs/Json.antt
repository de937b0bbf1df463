-- Texts as JSON.
use Rattle.std.specs.Prelude.{IsUtf8, String}
use Rattle.std.specs.Str.{is_utf8}
use Rattle.std.specs.declared.alloc.Global.{Global}
use Rattle.std.proofs.Common.{◌≡◌, ℕ, Bool, true, false, cond, List, [], ◌∷◌, length, None, refl, arith}
use Rattle.std.proofs.lemmas.Str.{IsUtf8-from_is_utf8, is_utf8-from_IsUtf8}
use Rattle.serde_json.specs.Read.{read}
use Rattle.serde_json.specs.View.{members_view}
use Rattle.serde_json.specs.declared.value.Value.{Value}
use Rattle.market_types.specs.State.{State}
use Rattle.edit_history.specs.Chronicled.{HasNumbersOf}
use Rattle.journal_replay.specs.declared.header.Extent.{Extent}
use Rattle.journal_replay.specs.Journal.{header_for}
use Rattle.journal_replay.specs.Reading.{json_of, count_members}

pub json-read : (text : List ℕ) → IsUtf8 text → json_of text ≡ read text
unfolding json_of
json-read text u = rw (is_utf8-from_IsUtf8 text u) refl

none-by : (b : Bool) (text : List ℕ) → is_utf8 text ≡ b → ¬ (IsUtf8 text) → cond b (read text) None ≡ None
none-by true text e never = absurd (never (IsUtf8-from_is_utf8 text e))
none-by false text e never = refl

pub json-none : (text : List ℕ) → ¬ (IsUtf8 text) → json_of text ≡ None
unfolding json_of
json-none text never = none-by (is_utf8 text) text refl never

pub count-members : (entries : List (String Global × Value)) → count_members (members_view entries) ≡ length entries
count-members [] = refl
count-members (e ∷ entries) = omega (arith, count-members entries)

-- a market with the numbers of its opening has the header of that
pub same-header : (extent : Extent) (start s : State) → HasNumbersOf start s → header_for extent s ≡ header_for extent start
same-header extent start s same =
    λ i. record { opening = record { base = same.base i; hard = same.hard i; seats = same.seats i; levels = same.levels i; last = same.last i }; extent = extent }
