-- What an object is whose members are an entry's, by its tokens.
use Rattle.std.proofs.Common.{◌≡◌, ◌≤◌, List, [], ◌∷◌, ◌++◌, codes, decimal, Some, option_and_then, option_map, append-nil, refl, sym, ap, ◌∙◌, arith}
use Rattle.std.specs.Prelude.{⊤}
use Rattle.json.specs.Token.{Token, begin_object, end_object}
use Rattle.json.specs.Json as json
use Rattle.json.specs.Tree.{json_tokens, members_tokens, depth, members_depth}
use Rattle.json.proofs.Printed.Trees.{value-json_tokens}
use Rattle.serde_json.specs.Data.{Members, no_members, object, put, number}
use Rattle.serde_json.specs.Read.{of_json, of_members, max_depth}
use Rattle.serde_json.proofs.Numbers.{number_of-decimal}
use Rattle.journal_replay.specs.declared.fields.Member.{Member}
use Rattle.journal_replay.specs.declared.fields.Member.TheVariants.{Cmd, Reply, Seat}
use Rattle.journal_replay.specs.Members.{IsCounted, data_of, member_tokens, with_member}

-- the tokens of a value are that value
tokens-read : (j : json.Json) → depth j ≤ max_depth → data_of (json_tokens j) ≡ of_json j
tokens-read j shallow =
    ap data_of (sym (append-nil (json_tokens j)))
    ∙ ap (λ o. option_and_then of_json (option_and_then (λ p. json.if_last p.0 p.1) o)) (value-json_tokens j max_depth [] shallow)

-- ---- members one after the other

-- what they make of an object
abbrev pub with_members : List Member → Members → Members
with_members [] found = found
with_members (m ∷ ms) found = with_members ms (with_member m found)

-- their tokens, and the brace that ends the object
abbrev pub tokens_of : List Member → List Token
tokens_of [] = end_object ∷ []
tokens_of (m ∷ ms) = member_tokens m ++ tokens_of ms

abbrev pub AreCounted : List Member → Type 0
AreCounted [] = ⊤
AreCounted (m ∷ ms) = IsCounted m × AreCounted ms

abbrev json_of_members : List Member → json.Members
json_of_members [] = json.no_members
json_of_members (Cmd text ∷ ms) = json.member (codes "cmd") (json.string text.now) (json_of_members ms)
json_of_members (Reply text ∷ ms) = json.member (codes "reply") (json.string text.now) (json_of_members ms)
json_of_members (Seat seat ∷ ms) = json.member (codes "seat") (json.number (decimal seat)) (json_of_members ms)

as-tokens : (ms : List Member) → tokens_of ms ≡ members_tokens (json_of_members ms)
as-tokens [] = refl
as-tokens (Cmd text ∷ ms) = ap (λ ts. member_tokens (Cmd text) ++ ts) (as-tokens ms)
as-tokens (Reply text ∷ ms) = ap (λ ts. member_tokens (Reply text) ++ ts) (as-tokens ms)
as-tokens (Seat seat ∷ ms) = ap (λ ts. member_tokens (Seat seat) ++ ts) (as-tokens ms)

flat : (ms : List Member) → members_depth (json_of_members ms) ≤ 0
flat [] = omega arith
flat (Cmd text ∷ ms) = omega (arith, flat ms)
flat (Reply text ∷ ms) = omega (arith, flat ms)
flat (Seat seat ∷ ms) = omega (arith, flat ms)

as-data : (ms : List Member) (found : Members) → AreCounted ms → of_members (json_of_members ms) found ≡ Some (with_members ms found)
as-data [] found counted = refl
as-data (Cmd text ∷ ms) found counted = as-data ms (with_member (Cmd text) found) counted.1
as-data (Reply text ∷ ms) found counted = as-data ms (with_member (Reply text) found) counted.1
as-data (Seat seat ∷ ms) found counted =
    ap (λ n. option_and_then (λ d. of_members (json_of_members ms) (put (codes "seat") d found)) (option_map number n)) (number_of-decimal seat counted.0)
    ∙ as-data ms (with_member (Seat seat) found) counted.1

object-read : (ms : List Member) → AreCounted ms → data_of (begin_object ∷ tokens_of ms) ≡ Some (object (with_members ms no_members))
object-read ms counted =
    ap (λ ts. data_of (begin_object ∷ ts)) (as-tokens ms)
    ∙ tokens-read (json.object (json_of_members ms)) (omega (arith, flat ms))
    ∙ ap (option_map object) (as-data ms no_members counted)

-- ---- an object of which some members were read

-- with the members that are left, its tokens are the object that they make of what was found
pub record Goes (all left : List Token) (found : Members) : Type 0 where
  pub on : (ms : List Member) → AreCounted ms → left ≡ tokens_of ms → data_of all ≡ Some (object (with_members ms found))

pub goes-first : (all left : List Token) (found : Members) → all ≡ begin_object ∷ left → found ≡ no_members → Goes all left found
goes-first all left found opens none = record {
  on = λ ms counted is. ap data_of (opens ∙ ap (λ ts. begin_object ∷ ts) is) ∙ object-read ms counted ∙ ap (λ f. Some (object (with_members ms f))) (sym none);
}

pub goes-more : (m : Member) (all left more : List Token) (found found' : Members) → Goes all left found → left ≡ member_tokens m ++ more → IsCounted m → found' ≡ with_member m found → Goes all more found'
goes-more m all left more found found' goes cut counted made = record {
  on = λ ms all_counted is. goes.on (m ∷ ms) (counted, all_counted) (cut ∙ ap (λ ts. member_tokens m ++ ts) is) ∙ ap (λ f. Some (object (with_members ms f))) (sym made);
}

pub goes-last : (all left : List Token) (found : Members) → Goes all left found → left ≡ end_object ∷ [] → data_of all ≡ Some (object found)
goes-last all left found goes is = goes.on [] tt is
