-- Parts of a text that go out one after another.
use Rattle.std.proofs.Common.{◌≡◌, ℕ, List, [], ◌++◌, Option, refl, sym, ap, ◌∙◌, subst, append_assoc, append-nil}
use Rattle.std.specs.Prelude.{OnErr, Result, Ok, Err}
use Rattle.std.specs.Io.KnownBytes.{Appends}
use Rattle.std.proofs.KnownBytes.{Appends-trans, Appends-nil}
use Rattle.byte_devices.specs.Devices.{WritesFront}
use Rattle.journal_chart.specs.Pages.{Paged}
use Rattle.line_engine.proofs.Taking.{WritesFront-after, WritesFront-longer}

-- of a whole text all but this rest has gone out
pub record Gone (before after : Option (List ℕ)) (rest whole : List ℕ) : Type 0 where
  pub out : List ℕ
  pub wrote : Appends before after out
  pub is : out ++ rest ≡ whole

pub gone-none : (a : Option (List ℕ)) (whole : List ℕ) → Gone a a whole whole
gone-none a whole = record { out = []; wrote = Appends-nil a; is = refl }

-- a part more, which is this text
pub gone-more : (a b c : Option (List ℕ)) (rest part behind whole text : List ℕ) → rest ≡ part ++ behind → text ≡ part → Gone a b rest whole → Appends b c text
    → Gone a c behind whole
gone-more a b c rest part behind whole text cut is g h = record {
  out = g.out ++ part;
  wrote = Appends-trans a b c g.out part g.wrote (subst (λ t. Appends b c t) is h);
  is = append_assoc g.out part behind ∙ ap (λ t. g.out ++ t) (sym cut) ∙ g.is;
}

-- the rest says the same
pub gone-same : (a b : Option (List ℕ)) (rest other whole : List ℕ) → rest ≡ other → Gone a b rest whole → Gone a b other whole
gone-same a b rest other whole same g = record { out = g.out; wrote = g.wrote; is = ap (λ t. g.out ++ t) (sym same) ∙ g.is }

pub gone-all : (a b : Option (List ℕ)) (rest whole : List ℕ) → rest ≡ [] → Gone a b rest whole → Appends a b whole
gone-all a b rest whole none g =
    subst (λ t. Appends a b t) (sym (append-nil g.out) ∙ ap (λ t. g.out ++ t) (sym none) ∙ g.is) g.wrote

-- a prefix of the next part
pub gone-front : (a b c : Option (List ℕ)) (rest part behind whole text : List ℕ) → rest ≡ part ++ behind → text ≡ part → Gone a b rest whole → WritesFront b c text
    → WritesFront a c whole
gone-front a b c rest part behind whole text cut is g w =
    subst (λ t. WritesFront a c t) (ap (λ t. g.out ++ t) (sym cut) ∙ g.is)
    (WritesFront-after a b c g.out (part ++ behind) g.wrote (WritesFront-longer b c part behind (subst (λ t. WritesFront b c t) is w)))

-- what stands on a page that was empty before two texts were put there
pub two-put : (page : Paged) (a b text x y : List ℕ) (room size : ℕ) → page ≡ record { text = []; room = room; size = size } → a ≡ page.text ++ x → b ≡ a ++ y → text ≡ b
    → text ≡ x ++ y
two-put page a b text x y room size empty p q is = is ∙ q ∙ ap (λ t. t ++ y) (p ∙ ap (λ (page : Paged). page.text ++ x) empty)

-- what holds anyway holds after a fault
pub at-err : {T E : Type 0} (P : Type 0) (r : Result T E) → P → OnErr r P
at-err P (Ok v) p = tt
at-err P (Err e) p = p
