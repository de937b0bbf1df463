-- One entry more: the entries of each seat, and where they leave it.
use Rattle.std.proofs.Common.{◌≡◌, ◌≢◌, ℕ, ◌==◌, Bool, true, false, cond, List, [], ◌∷◌, ◌++◌, ◌+◌, ◌≤◌, length, Option, Some, None, refl, ap, ◌∙◌, append-nil, length-append, arith, eq-eqb, ne_eqb}
use Rattle.std.proofs.lemmas.List.Sums.{fold-append}
use Rattle.market_types.specs.declared.command.Cmd.{Cmd}
use Rattle.market_types.specs.declared.command.Cmd.TheVariants.{Open, Close, Priority, Resize, Request, Control, Uncontrol, Join, Stay, Leave, Show, Lists, Limit}
use Rattle.market_types.specs.declared.reply.Entry.{Entry}
use Rattle.market_types.specs.declared.reply.Reply.{Reply}
use Rattle.market_types.specs.declared.reply.Reply.TheVariants.{Placed, Recalled, Left}
use Rattle.market_types.specs.Commands.{moves_seat}
use Rattle.market_types.specs.History.{of_seat, place_after}
use Rattle.market_core.specs.Moves.{moves, Answers}
use Rattle.edit_history.specs.Chronicled.{entry}
use Rattle.market_lock.specs.Workers.{own_place}

cons_if : (b : Bool) (x : Entry) (l m r : List Entry) → l ≡ m ++ r → cond b (x ∷ l) l ≡ cond b (x ∷ m) m ++ r
cons_if true x l m r e = ap (λ k. x ∷ k) e
cons_if false x l m r e = e

of-append : (n : ℕ) (xs ys : List Entry) → of_seat n (xs ++ ys) ≡ of_seat n xs ++ of_seat n ys
of-append n [] ys = refl
of-append n (x ∷ xs) ys = cons_if (x.call.seat == n) x (of_seat n (xs ++ ys)) (of_seat n xs) (of_seat n ys) (of-append n xs ys)

-- an entry of this seat, behind the others
pub of-own : (n : ℕ) (cmd : Cmd) (reply : Reply) (xs : List Entry) → of_seat n (xs ++ entry n cmd reply ∷ []) ≡ of_seat n xs ++ entry n cmd reply ∷ []
of-own n cmd reply xs = of-append n xs (entry n cmd reply ∷ []) ∙ ap (λ (b : Bool). of_seat n xs ++ cond b (entry n cmd reply ∷ []) []) (eq-eqb n n refl)

-- an entry of another seat
pub of-other : (n k : ℕ) (cmd : Cmd) (reply : Reply) (xs : List Entry) → n ≢ k → of_seat k (xs ++ entry n cmd reply ∷ []) ≡ of_seat k xs
of-other n k cmd reply xs apart =
    of-append k xs (entry n cmd reply ∷ []) ∙ (ap (λ (b : Bool). of_seat k xs ++ cond b (entry n cmd reply ∷ []) []) (ne_eqb n k apart) ∙ append-nil (of_seat k xs))

-- the last of its entries leaves a seat where it is
pub own_place-longer : (own : List Entry) (e : Entry) → own_place (own ++ e ∷ []) ≡ place_after (own_place own) e.reply
own_place-longer own e = fold-append (λ place (x : Entry). place_after place x.reply) None own (e ∷ [])

stays : (p : Option ℕ) (r : Reply) → moves r ≡ false → place_after p r ≡ p
stays p (Placed a) e = absurd (let f : true ≡ false = e in cc)
stays p (Recalled a) e = absurd (let f : true ≡ false = e in cc)
stays p (Left a) e = absurd (let f : true ≡ false = e in cc)
stays p _ e = refl

-- a call that moves no seat leaves its own where it is
pub unmoved : (cmd : Cmd) (p : Option ℕ) (r : Reply) → moves_seat cmd ≡ false → Answers p cmd r → place_after p r ≡ p
unmoved Join p r quiet h = absurd (let f : true ≡ false = quiet in cc)
unmoved Stay p r quiet h = absurd (let f : true ≡ false = quiet in cc)
unmoved Leave p r quiet h = absurd (let f : true ≡ false = quiet in cc)
unmoved (Open slots reserved level) None r quiet h = stays None r h
unmoved (Open slots reserved level) (Some a) r quiet h = stays (Some a) r h
unmoved (Close b) None r quiet h = stays None r h
unmoved (Close b) (Some a) r quiet h = stays (Some a) r h
unmoved (Priority b level) None r quiet h = stays None r h
unmoved (Priority b level) (Some a) r quiet h = stays (Some a) r h
unmoved (Resize b slots reserved) None r quiet h = stays None r h
unmoved (Resize b slots reserved) (Some a) r quiet h = stays (Some a) r h
unmoved (Request b w m) None r quiet h = stays None r h
unmoved (Request b w m) (Some a) r quiet h = stays (Some a) r h
unmoved (Control v) None r quiet h = stays None r h
unmoved (Control v) (Some a) r quiet h = stays (Some a) r h
unmoved (Uncontrol c) None r quiet h = stays None r h
unmoved (Uncontrol c) (Some a) r quiet h = stays (Some a) r h
unmoved (Show b) None r quiet h = stays None r h
unmoved (Show b) (Some a) r quiet h = stays (Some a) r h
unmoved Lists None r quiet h = stays None r h
unmoved Lists (Some a) r quiet h = stays (Some a) r h
unmoved Limit None r quiet h = stays None r h
unmoved Limit (Some a) r quiet h = stays (Some a) r h

few_if : (b : Bool) (x : Entry) (l m : List Entry) → length m ≤ length l → length (cond b (x ∷ m) m) ≤ length l + 1
few_if true x l m h = omega (arith, h)
few_if false x l m h = omega (arith, h)

-- a seat has no more entries than there are
few-own : (n : ℕ) (xs : List Entry) → length (of_seat n xs) ≤ length xs
few-own n [] = omega arith
few-own n (x ∷ xs) = omega (arith, few_if (x.call.seat == n) x xs (of_seat n xs) (few-own n xs))

-- so one more of its own can be counted where they all can
pub more-own : (n most : ℕ) (cmd : Cmd) (reply : Reply) (xs ys : List Entry) → ys ≡ xs ++ entry n cmd reply ∷ [] → length ys ≤ most → length (of_seat n xs) + 1 ≤ most
more-own n most cmd reply xs ys is few =
    omega (arith, few, few-own n ys, ap (λ l. length (of_seat n l)) is, ap length (of-own n cmd reply xs), length-append (of_seat n xs) (entry n cmd reply ∷ []))
