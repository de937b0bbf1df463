-- What is written of commands and replies is plain: it stands in a JSON string as it is.
use Rattle.std.specs.Prelude.{◌==◌, ℤ, pos, negsuc}
use Rattle.std.specs.Fmt.{digits, digits_onto, digit_glyph, signed_decimal}
use Rattle.std.specs.List.{join_with_byte}
use Rattle.std.proofs.Common.{◌≡◌, ℕ, zero, suc, ◌/◌, ◌%◌, ◌++◌, Bool, true, false, cond, List, [], ◌∷◌, map, codes, decimal, refl, arith}
use Rattle.std.proofs.lemmas.Bool.{and_parts}
use Rattle.std.proofs.lemmas.Bool.Decides.{nat_tests}
use Rattle.market_types.specs.declared.command.Cmd.{Cmd}
use Rattle.market_types.specs.declared.command.Cmd.TheVariants.{Open, Close, Priority, Resize, Request, Control, Uncontrol, Join, Stay, Leave, Show, Lists, Limit}
use Rattle.market_types.specs.declared.reply.Fault.{Fault}
use Rattle.market_types.specs.declared.reply.Fault.TheVariants.{BadSlots, BadReserve, TooManyArenas, OutOfNumbers, NoArena, Busy, WantedRange, MandatoryRange, BadValue, TooManyControls, NoControl, AlreadyPlaced, NotPlaced, BadLevel}
use Rattle.market_types.specs.declared.reply.ArenaView.{ArenaView}
use Rattle.market_types.specs.declared.reply.LimitView.{LimitView}
use Rattle.market_types.specs.declared.reply.Reply.{Reply}
use Rattle.market_types.specs.declared.reply.Reply.TheVariants.{Opened, Closed, Moved, Resized, Requested, Controlled, Uncontrolled, Placed, Idle, Stays, Recalled, Left, Shown, Listed, Limits, Refused}
use Rattle.journal_replay.specs.Plain.{is_plain, are_plain}
use Rattle.market_texts.specs.Texts.{has_name, level_name, level_text, cmd_text, fault_text, yes_no, view_text, limit_text, count_text, counts_text, reply_text}

plain-append : (xs ys : List ℕ) → are_plain xs ≡ true → are_plain ys ≡ true → are_plain (xs ++ ys) ≡ true
plain-append [] ys h k = k
plain-append (x ∷ xs) ys h k = let p = and_parts (is_plain x) (are_plain xs) h in rw p.0 (plain-append xs ys p.1 k)

plain-either : (b : Bool) (xs ys : List ℕ) → are_plain xs ≡ true → are_plain ys ≡ true → are_plain (cond b xs ys) ≡ true
plain-either true xs ys h k = h
plain-either false xs ys h k = k

-- ---- numbers

plain-glyph : (n : ℕ) (acc : List ℕ) → are_plain acc ≡ true → are_plain (digit_glyph false (n % 10) ∷ acc) ≡ true
plain-glyph n acc h = let small : is_plain (digit_glyph false (n % 10)) ≡ true = grind (arith, nat_tests) in rw small h

plain-onto : (k n : ℕ) (acc : List ℕ) → are_plain acc ≡ true → are_plain (digits_onto k 10 false n acc) ≡ true
plain-onto zero n acc h = h
plain-onto (suc k) n acc h =
    let more = plain-glyph n acc h in
    plain-either (n / 10 == 0) (digit_glyph false (n % 10) ∷ acc) (digits_onto k 10 false (n / 10) (digit_glyph false (n % 10) ∷ acc)) more (plain-onto k (n / 10) (digit_glyph false (n % 10) ∷ acc) more)

pub plain-decimal : (n : ℕ) → are_plain (decimal n) ≡ true
unfolding digits
plain-decimal n = plain-onto 64 n [] refl

plain-signed : (z : ℤ) → are_plain (signed_decimal z) ≡ true
plain-signed (pos n) = plain-decimal n
plain-signed (negsuc n) = plain-decimal (suc n)

-- a number and what follows it
number-then : (n : ℕ) (rest : List ℕ) → are_plain rest ≡ true → are_plain (decimal n ++ rest) ≡ true
number-then n rest h = plain-append (decimal n) rest (plain-decimal n) h

-- ---- commands

plain-level : (levels level : ℕ) → are_plain (level_text levels level) ≡ true
plain-level levels level =
    plain-either (has_name levels level) (level_name level) (decimal level)
    (plain-either (level == 1) (codes "high") (cond (level == 2) (codes "normal") (codes "low")) refl (plain-either (level == 2) (codes "normal") (codes "low") refl refl))
    (plain-decimal level)

pub plain-cmd : (levels : ℕ) (cmd : Cmd) → are_plain (cmd_text levels cmd) ≡ true
plain-cmd levels (Open slots reserved level) =
    number-then slots (codes " " ++ (decimal reserved ++ (codes " " ++ level_text levels level))) (number-then reserved (codes " " ++ level_text levels level) (plain-level levels level))
plain-cmd levels (Close arena) = plain-decimal arena
plain-cmd levels (Priority arena level) = number-then arena (codes " " ++ level_text levels level) (plain-level levels level)
plain-cmd levels (Resize arena slots reserved) = number-then arena (codes " " ++ (decimal slots ++ (codes " " ++ decimal reserved))) (number-then slots (codes " " ++ decimal reserved) (plain-decimal reserved))
plain-cmd levels (Request arena workers mandatory) =
    number-then arena (codes " " ++ (signed_decimal workers ++ (codes " " ++ signed_decimal mandatory))) (plain-append (signed_decimal workers) (codes " " ++ signed_decimal mandatory) (plain-signed workers) (plain-signed mandatory))
plain-cmd levels (Control value) = plain-decimal value
plain-cmd levels (Uncontrol control) = plain-decimal control
plain-cmd levels Join = refl
plain-cmd levels Stay = refl
plain-cmd levels Leave = refl
plain-cmd levels (Show arena) = plain-decimal arena
plain-cmd levels Lists = refl
plain-cmd levels Limit = refl

-- ---- replies

plain-fault : (f : Fault) → are_plain (fault_text f) ≡ true
plain-fault BadSlots = refl
plain-fault BadReserve = refl
plain-fault TooManyArenas = refl
plain-fault OutOfNumbers = refl
plain-fault NoArena = refl
plain-fault (Busy seats) = plain-decimal seats
plain-fault WantedRange = refl
plain-fault MandatoryRange = refl
plain-fault BadValue = refl
plain-fault TooManyControls = refl
plain-fault NoControl = refl
plain-fault (AlreadyPlaced arena) = plain-decimal arena
plain-fault NotPlaced = refl
plain-fault BadLevel = refl

plain-yes_no : (b : Bool) → are_plain (yes_no b) ≡ true
plain-yes_no true = refl
plain-yes_no false = refl

plain-view : (v : ArenaView) → are_plain (view_text v) ≡ true
plain-view v =
    let recall : List ℕ = codes " recall " ++ (decimal v.recall ++ (codes " hire " ++ decimal v.hire)) in
    let active : List ℕ = codes " active " ++ (decimal v.active ++ recall) in
    let top : List ℕ = codes " top " ++ (yes_no v.top ++ active) in
    let allot : List ℕ = codes " allot " ++ (decimal v.allot ++ top) in
    number-then v.arena (codes " request " ++ (decimal v.request ++ allot))
    (number-then v.request allot
    (number-then v.allot top
    (plain-append (yes_no v.top) active (plain-yes_no v.top)
    (number-then v.active recall
    (number-then v.recall (codes " hire " ++ decimal v.hire) (plain-decimal v.hire))))))

plain-limit : (v : LimitView) → are_plain (limit_text v) ≡ true
plain-limit v =
    number-then v.value (codes " limit " ++ (decimal v.limit ++ (codes " effective " ++ decimal v.effective)))
    (number-then v.limit (codes " effective " ++ decimal v.effective) (plain-decimal v.effective))

plain-count : (e : ℕ × ℕ) → are_plain (count_text e) ≡ true
plain-count e = number-then e.0 (codes ":" ++ decimal e.1) (plain-decimal e.1)

plain-joined : (e : ℕ × ℕ) (es : List (ℕ × ℕ)) → are_plain (join_with_byte 44 (map count_text (e ∷ es))) ≡ true
plain-joined e [] = plain-count e
plain-joined e (f ∷ fs) = plain-append (count_text e) (44 ∷ join_with_byte 44 (map count_text (f ∷ fs))) (plain-count e) (plain-joined f fs)

plain-counts : (es : List (ℕ × ℕ)) → are_plain (counts_text es) ≡ true
plain-counts [] = refl
plain-counts (e ∷ es) = plain-joined e es

pub plain-reply : (r : Reply) → are_plain (reply_text r) ≡ true
plain-reply (Opened arena) = plain-decimal arena
plain-reply Closed = refl
plain-reply Moved = refl
plain-reply (Resized request) = plain-decimal request
plain-reply (Requested request) = plain-decimal request
plain-reply (Controlled control) = plain-decimal control
plain-reply Uncontrolled = refl
plain-reply (Placed arena) = plain-decimal arena
plain-reply Idle = refl
plain-reply (Stays arena) = plain-decimal arena
plain-reply (Recalled arena) = plain-decimal arena
plain-reply (Left arena) = plain-decimal arena
plain-reply (Shown view) = plain-view view
plain-reply (Listed counts) =
    plain-append (counts_text counts.recalls) (codes " hire " ++ counts_text counts.hires) (plain-counts counts.recalls) (plain-counts counts.hires)
plain-reply (Limits view) = plain-limit view
plain-reply (Refused fault) = plain-fault fault
