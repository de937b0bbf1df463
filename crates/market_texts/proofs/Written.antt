-- What grows by texts.
use Rattle.std.proofs.Common.{◌≡◌, ℕ, List, [], ◌++◌, subst, ap, sym, ◌∙◌, append-nil, append_assoc}
use Rattle.std.specs.Str.{IsUtf8}
use Rattle.std.proofs.lemmas.Str.{IsUtf8-append, IsUtf8-nil}
use Rattle.market_texts.specs.Written.{Extends}

pub extends_trans : {a b c : List ℕ} → Extends a b → Extends b c → Extends a c
extends_trans {a} {b} {c} f g = record {
  more = f.more ++ g.more;
  is = g.is ∙ ap (λ t. t ++ g.more) f.is ∙ append_assoc a f.more g.more;
  utf8 = IsUtf8-append f.more g.more f.utf8 g.utf8;
}

pub extends_self : (a : List ℕ) → Extends a a
extends_self a = record { more = []; is = sym (append-nil a); utf8 = IsUtf8-nil }

pub utf8_grows : {a b : List ℕ} → Extends a b → IsUtf8 a → IsUtf8 b
utf8_grows {a} {b} f h = subst IsUtf8 (sym f.is) (IsUtf8-append a f.more h f.utf8)

-- three texts behind another are one text behind it
pub in-three : (a b c x y z : List ℕ) → b ≡ a ++ x → c ≡ b ++ y → c ++ z ≡ a ++ (x ++ (y ++ z))
in-three a b c x y z first second =
    ap (λ xs. xs ++ z) (second ∙ ap (λ xs. xs ++ y) first ∙ append_assoc a x y) ∙ append_assoc a (x ++ y) z ∙ ap (λ xs. a ++ xs) (append_assoc x y z)
