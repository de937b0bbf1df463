-- No line of a journal that was written is too long.
use Rattle.std.specs.Prelude.{nat_lt, ◌==◌, ℤ, pos, negsuc}
use Rattle.std.specs.Char.{digit_char}
use Rattle.std.specs.Fmt.{digits, digits_onto, digit_glyph, signed_decimal}
use Rattle.std.specs.List.{All, join_with_byte}
use Rattle.std.specs.Str.{all_ascii_digits}
use Rattle.std.specs.Str.Parse.{AllDigits, digits_value}
use Rattle.std.proofs.Common.{◌≡◌, ℕ, zero, suc, ◌+◌, ◌*◌, ◌/◌, ◌%◌, ◌<◌, ◌≤◌, ◌^◌, ◌++◌, Bool, true, false, cond, List, [], ◌∷◌, length, map, codes, decimal, refl, sym, ap, ◌∙◌, subst, arith, length-append, inl, inr}
use Rattle.std.proofs.lemmas.List.Concat.{flat_map-append}
use Rattle.std.proofs.lemmas.Bool.{cases_Bool}
use Rattle.std.proofs.lemmas.List.{length-map}
use Rattle.std.proofs.lemmas.List.Elements.{All-head, All-tail, All-nil, All-cons, All-filter, All-map, All-weaker}
use Rattle.std.proofs.lemmas.Str.Parse.{IsNumeralModel, numerals_by_value, tells_all_ascii_digits, digit_from_value}
use Rattle.std.proofs.lemmas.Fmt.{digits_decimal, length-decimal-le}
use Rattle.json.specs.Print.{escape_letter, escape_byte, escape}
use Rattle.json.proofs.Printed.Strings.{escape_byte_plain}
use Rattle.market_types.specs.declared.command.Cmd.{Cmd}
use Rattle.market_types.specs.declared.command.Cmd.TheVariants.{Open, Close, Priority, Resize, Request, Control, Uncontrol, Join, Stay, Leave, Show, Lists, Limit}
use Rattle.market_types.specs.declared.reply.Entry.{Entry}
use Rattle.market_types.specs.declared.reply.Fault.{Fault}
use Rattle.market_types.specs.declared.reply.Fault.TheVariants.{BadSlots, BadReserve, TooManyArenas, OutOfNumbers, NoArena, Busy, WantedRange, MandatoryRange, BadValue, TooManyControls, NoControl, AlreadyPlaced, NotPlaced, BadLevel}
use Rattle.market_types.specs.declared.reply.ArenaView.{ArenaView}
use Rattle.market_types.specs.declared.reply.LimitView.{LimitView}
use Rattle.market_types.specs.declared.reply.Reply.{Reply}
use Rattle.market_types.specs.declared.reply.Reply.TheVariants.{Opened, Closed, Moved, Resized, Requested, Controlled, Uncontrolled, Placed, Idle, Stays, Recalled, Left, Shown, Listed, Limits, Refused}
use Rattle.market_types.specs.Replies.{is_listed}
use Rattle.market_texts.specs.Texts.{has_name, level_name, level_text, cmd_text, fault_text, yes_no, view_text, limit_text, count_text, counts_text, reply_text}
use Rattle.market_types.specs.State.{Arena, State}
use Rattle.market_types.specs.Allotment.{in_order, recall, hire}
use Rattle.market_types.specs.Step.{Outcome, above_zero, counts_of, step}
use Rattle.market_types.specs.History.{IsLegal}
use Rattle.edit_history.specs.Chronicled.{IsOpening}
use Rattle.journal_replay.specs.Journal.{fields_line}
use Rattle.journal_replay.specs.Written.{IsShort}
use Rattle.market_core.proofs.Moved.{steps, same_seats}
use Rattle.journal_replay.proofs.Few.{Few, IsBounded, fewer, few-step, few-in_order, allotment-small, active-small}

-- ---- how long a text is as JSON, without its quotes

size : List ℕ → ℕ
size s = length (escape s)

size-append : (a b : List ℕ) → size (a ++ b) ≡ size a + size b
unfolding size
size-append a b = ap length (flat_map-append escape_byte a b) ∙ length-append (escape a) (escape b)

byte-by : (b c : Bool) (l d e x : ℕ) → length (cond b (92 ∷ l ∷ []) (cond c (92 ∷ 117 ∷ 48 ∷ 48 ∷ d ∷ e ∷ []) (x ∷ []))) ≤ 6
byte-by true c l d e x = omega arith
byte-by false true l d e x = omega arith
byte-by false false l d e x = omega arith

byte-size : (x : ℕ) → length (escape_byte x) ≤ 6
unfolding escape_byte
byte-size x = byte-by (nat_lt 0 (escape_letter x)) (nat_lt x 32) (escape_letter x) (digit_char (x / 16)) (digit_char (x % 16)) x

six : (s : List ℕ) → size s ≤ 6 * length s
unfolding size
six [] = omega arith
six (x ∷ s) = omega (arith, length-append (escape_byte x) (escape s), byte-size x, six s)

-- ---- numbers

longer-by : (b : Bool) (xs ys : List ℕ) (m : ℕ) → length xs ≤ m → length ys ≤ m → length (cond b xs ys) ≤ m
longer-by true xs ys m h k = h
longer-by false xs ys m h k = k

onto-length : (k n : ℕ) (acc : List ℕ) → length (digits_onto k 10 false n acc) ≤ k + length acc
onto-length zero n acc = omega arith
onto-length (suc k) n acc =
    longer-by (n / 10 == 0) _ (digits_onto k 10 false (n / 10) (digit_glyph false (n % 10) ∷ acc)) (suc k + length acc) (omega arith) (let more = onto-length k (n / 10) (digit_glyph false (n % 10) ∷ acc) in omega arith)

decimal-length : (n : ℕ) → length (decimal n) ≤ 64
unfolding digits
decimal-length n = let h = onto-length 64 n [] in omega arith

decimal-size : (n : ℕ) → size (decimal n) ≤ 384
decimal-size n = omega (arith, six (decimal n), decimal-length n)

own : IsNumeralModel (λ ds. all_ascii_digits ds ≡ true) (digits_value 10)
own = numerals_by_value _ tells_all_ascii_digits

digit-size : (c : ℕ) → (48 ≤ c) × (c < 58) → length (escape_byte c) ≡ 1
digit-size c h = ap length (escape_byte_plain c (λ e. omega arith) (λ e. omega arith) (omega arith))

digits-size : (ds : List ℕ) → AllDigits 10 ds → size ds ≡ length ds
unfolding size
digits-size [] h = refl
digits-size (c ∷ cs) h = let d = digit_from_value c h.0 in omega (arith, length-append (escape_byte c) (escape cs), digit-size c (d.0, omega arith), digits-size cs h.1)

small-size : (k n : ℕ) → 0 < k → n < 10 ^ k → n < 2 ^ 64 → size (decimal n) ≤ k
small-size k n some small fits = omega (arith, digits-size (decimal n) (own.to (decimal n) (digits_decimal own n fits)), length-decimal-le k n some small fits)

-- ---- parts of texts

lit : (label : List ℕ) → length label ≤ 40 → size label ≤ 240
lit label h = omega (arith, six label)

lit-part : (label rest : List ℕ) (k : ℕ) → length label ≤ 40 → size rest ≤ k → size (label ++ rest) ≤ 240 + k
lit-part label rest k h r = omega (arith, size-append label rest, lit label h)

num-part : (n : ℕ) (rest : List ℕ) (k : ℕ) → size rest ≤ k → size (decimal n ++ rest) ≤ 384 + k
num-part n rest k r = omega (arith, size-append (decimal n) rest, decimal-size n)

-- a label, a number, and more
part : (label : List ℕ) (n : ℕ) (rest : List ℕ) (k : ℕ) → length label ≤ 40 → size rest ≤ k → size (label ++ (decimal n ++ rest)) ≤ 624 + k
part label n rest k h r = let more = lit-part label (decimal n ++ rest) (384 + k) h (num-part n rest k r) in omega arith

-- a label and a number
last : (label : List ℕ) (n : ℕ) → length label ≤ 40 → size (label ++ decimal n) ≤ 624
last label n h = let more = lit-part label (decimal n) 384 h (decimal-size n) in omega arith

signed-size : (z : ℤ) → size (signed_decimal z) ≤ 624
signed-size (pos n) = omega (arith, decimal-size n)
signed-size (negsuc n) = lit-part (45 ∷ []) (decimal (suc n)) 384 (omega arith) (decimal-size (suc n))

either : (b : Bool) (xs ys : List ℕ) (m : ℕ) → size xs ≤ m → size ys ≤ m → size (cond b xs ys) ≤ m
either true xs ys m h k = h
either false xs ys m h k = k

level-size : (levels level : ℕ) → size (level_text levels level) ≤ 384
level-size levels level =
    let high : size (codes "high") ≤ 384 = omega (arith, lit (codes "high") (omega arith)) in
    let normal : size (codes "normal") ≤ 384 = omega (arith, lit (codes "normal") (omega arith)) in
    let low : size (codes "low") ≤ 384 = omega (arith, lit (codes "low") (omega arith)) in
    either (has_name levels level) (level_name level) (decimal level) 384
    (either (level == 1) (codes "high") (cond (level == 2) (codes "normal") (codes "low")) 384 high (either (level == 2) (codes "normal") (codes "low") 384 normal low))
    (decimal-size level)

cmd-size : (levels : ℕ) (cmd : Cmd) → size (cmd_text levels cmd) ≤ 5000
cmd-size levels (Open slots reserved level) =
    let h = part (codes "open ") slots _ 1248 (omega arith) (part (codes " ") reserved _ 624 (omega arith) (lit-part (codes " ") (level_text levels level) 384 (omega arith) (level-size levels level))) in omega arith
cmd-size levels (Close arena) = let h = last (codes "close ") arena (omega arith) in omega arith
cmd-size levels (Priority arena level) = let h = part (codes "priority ") arena _ 624 (omega arith) (lit-part (codes " ") (level_text levels level) 384 (omega arith) (level-size levels level)) in omega arith
cmd-size levels (Resize arena slots reserved) = let h = part (codes "resize ") arena _ 1248 (omega arith) (part (codes " ") slots _ 624 (omega arith) (last (codes " ") reserved (omega arith))) in omega arith
cmd-size levels (Request arena workers mandatory) =
    let m = lit-part (codes " ") (signed_decimal mandatory) 624 (omega arith) (signed-size mandatory) in
    let w : size (signed_decimal workers ++ (codes " " ++ signed_decimal mandatory)) ≤ 1488 = omega (arith, size-append (signed_decimal workers) (codes " " ++ signed_decimal mandatory), signed-size workers) in
    let h = part (codes "request ") arena _ 1728 (omega arith) (lit-part (codes " ") _ 1488 (omega arith) w) in omega arith
cmd-size levels (Control value) = let h = last (codes "control ") value (omega arith) in omega arith
cmd-size levels (Uncontrol control) = let h = last (codes "uncontrol ") control (omega arith) in omega arith
cmd-size levels Join = let h = lit (codes "join") (omega arith) in omega arith
cmd-size levels Stay = let h = lit (codes "stay") (omega arith) in omega arith
cmd-size levels Leave = let h = lit (codes "leave") (omega arith) in omega arith
cmd-size levels (Show arena) = let h = last (codes "show ") arena (omega arith) in omega arith
cmd-size levels Lists = let h = lit (codes "lists") (omega arith) in omega arith
cmd-size levels Limit = let h = lit (codes "limit") (omega arith) in omega arith

fault-size : (f : Fault) → size (fault_text f) ≤ 624
fault-size BadSlots = let h = lit (codes "F01 bad slots") (omega arith) in omega arith
fault-size BadReserve = let h = lit (codes "F02 bad reserve") (omega arith) in omega arith
fault-size TooManyArenas = let h = lit (codes "F03 too many arenas") (omega arith) in omega arith
fault-size OutOfNumbers = let h = lit (codes "F04 out of numbers") (omega arith) in omega arith
fault-size NoArena = let h = lit (codes "F05 no arena") (omega arith) in omega arith
fault-size (Busy seats) = last (codes "F06 busy ") seats (omega arith)
fault-size WantedRange = let h = lit (codes "F07 wanted range") (omega arith) in omega arith
fault-size MandatoryRange = let h = lit (codes "F08 mandatory range") (omega arith) in omega arith
fault-size BadValue = let h = lit (codes "F09 bad value") (omega arith) in omega arith
fault-size TooManyControls = let h = lit (codes "F10 too many controls") (omega arith) in omega arith
fault-size NoControl = let h = lit (codes "F11 no control") (omega arith) in omega arith
fault-size (AlreadyPlaced arena) = last (codes "F12 already placed ") arena (omega arith)
fault-size NotPlaced = let h = lit (codes "F13 not placed") (omega arith) in omega arith
fault-size BadLevel = let h = lit (codes "F14 bad level") (omega arith) in omega arith

yes-size : (b : Bool) → size (yes_no b) ≤ 240
yes-size true = lit (codes "yes") (omega arith)
yes-size false = lit (codes "no") (omega arith)

view-size : (v : ArenaView) → size (view_text v) ≤ 5000
view-size v =
    let hire = last (codes " hire ") v.hire (omega arith) in
    let recall = part (codes " recall ") v.recall _ 624 (omega arith) hire in
    let active = part (codes " active ") v.active _ 1248 (omega arith) recall in
    let top : size (yes_no v.top ++ (codes " active " ++ (decimal v.active ++ (codes " recall " ++ (decimal v.recall ++ (codes " hire " ++ decimal v.hire)))))) ≤ 2112 = omega (arith, size-append (yes_no v.top) (codes " active " ++ (decimal v.active ++ (codes " recall " ++ (decimal v.recall ++ (codes " hire " ++ decimal v.hire))))), yes-size v.top) in
    let allot = part (codes " allot ") v.allot _ 2352 (omega arith) (lit-part (codes " top ") _ 2112 (omega arith) top) in
    let request = part (codes " request ") v.request _ 2976 (omega arith) allot in
    let h = part (codes "arena ") v.arena _ 3600 (omega arith) request in
    omega arith

limit-size : (v : LimitView) → size (limit_text v) ≤ 5000
limit-size v =
    let effective = last (codes " effective ") v.effective (omega arith) in
    let h = part (codes "value ") v.value _ 1248 (omega arith) (part (codes " limit ") v.limit _ 624 (omega arith) effective) in
    omega arith

reply-size : (r : Reply) → is_listed r ≡ false → size (reply_text r) ≤ 5000
reply-size (Opened arena) e = let h = last (codes "arena ") arena (omega arith) in omega arith
reply-size Closed e = let h = lit (codes "ok") (omega arith) in omega arith
reply-size Moved e = let h = lit (codes "ok") (omega arith) in omega arith
reply-size (Resized request) e = let h = last (codes "resized ") request (omega arith) in omega arith
reply-size (Requested request) e = let h = last (codes "request ") request (omega arith) in omega arith
reply-size (Controlled control) e = let h = last (codes "control ") control (omega arith) in omega arith
reply-size Uncontrolled e = let h = lit (codes "ok") (omega arith) in omega arith
reply-size (Placed arena) e = let h = last (codes "placed ") arena (omega arith) in omega arith
reply-size Idle e = let h = lit (codes "idle") (omega arith) in omega arith
reply-size (Stays arena) e = let h = last (codes "stays ") arena (omega arith) in omega arith
reply-size (Recalled arena) e = let h = last (codes "recalled ") arena (omega arith) in omega arith
reply-size (Left arena) e = let h = last (codes "left ") arena (omega arith) in omega arith
reply-size (Shown view) e = view-size view
reply-size (Listed counts) e = absurd (cc)
reply-size (Limits view) e = limit-size view
reply-size (Refused fault) e = let h = fault-size fault in omega arith

-- ---- lists

abbrev IsSmall : ℕ × ℕ → Type 0
IsSmall e = (e.0 ≤ 4294967294) × (e.1 ≤ 4397912294400)

plain-more : (c : ℕ) (xs : List ℕ) → (c ≡ 34 → ⊥) → (c ≡ 92 → ⊥) → 32 ≤ c → size (c ∷ xs) ≡ 1 + size xs
unfolding size
plain-more c xs q b l = omega (arith, length-append (escape_byte c) (escape xs), ap length (escape_byte_plain c q b l))

count-size : (e : ℕ × ℕ) → IsSmall e → size (count_text e) ≤ 24
count-size e h =
    let number = small-size 10 e.0 (omega arith) (omega (arith, h.0)) (omega (arith, h.0)) in
    let count = small-size 13 e.1 (omega arith) (omega (arith, h.1)) (omega (arith, h.1)) in
    let colon = plain-more 58 (decimal e.1) (λ e. omega arith) (λ e. omega arith) (omega arith) in
    omega (arith, size-append (decimal e.0) (codes ":" ++ decimal e.1))

joined-size : (e : ℕ × ℕ) (es : List (ℕ × ℕ)) → All IsSmall (e ∷ es) → size (join_with_byte 44 (map count_text (e ∷ es))) ≤ 25 * (1 + length es)
joined-size e [] h = let one = count-size e (All-head IsSmall e [] h) in omega arith
joined-size e (f ∷ fs) h =
    let one = count-size e (All-head IsSmall e (f ∷ fs) h) in
    let rest = joined-size f fs (All-tail IsSmall e (f ∷ fs) h) in
    let comma = plain-more 44 (join_with_byte 44 (map count_text (f ∷ fs))) (λ e. omega arith) (λ e. omega arith) (omega arith) in
    omega (arith, size-append (count_text e) (44 ∷ join_with_byte 44 (map count_text (f ∷ fs))))

counts-size : (es : List (ℕ × ℕ)) → All IsSmall es → length es ≤ 1024 → size (counts_text es) ≤ 25600
counts-size [] h few = let dash = lit (codes "-") (omega arith) in omega arith
counts-size (e ∷ es) h few = let all = joined-size e es h in omega arith

above-small : (count : ℕ → ℕ) (arenas : List Arena) → All IsBounded arenas → ((n : ℕ) → count n ≤ 4397912294400) → All IsSmall (above_zero count arenas)
above-small count arenas all small =
    let listed : Arena → ℕ × ℕ = λ a. (a.number, count a.number) in
    All-filter (λ (e : ℕ × ℕ). nat_lt 0 e.1) IsSmall (map listed arenas) (All-map IsSmall listed arenas (All-weaker IsBounded (λ a. IsSmall (listed a)) (λ a h. (h.0, small a.number)) arenas all))

above-length : (count : ℕ → ℕ) (arenas : List Arena) → length (above_zero count arenas) ≤ length arenas
above-length count arenas =
    let listed : Arena → ℕ × ℕ = λ a. (a.number, count a.number) in
    omega (arith, fewer (λ (e : ℕ × ℕ). nat_lt 0 e.1) (map listed arenas), length-map arenas listed)

lists-size : (s : State) → Few s.arenas → s.hard ≤ 65535 → length s.seats ≤ 64 → size (reply_text (Listed (counts_of s))) ≤ 52000
lists-size s h hard seats =
    let o = few-in_order s h in
    let few = o.few in
    let recalls : size (counts_text (above_zero (recall s) (in_order s))) ≤ 25600 =
    counts-size _ (above-small (recall s) (in_order s) o.all (λ n. let a = active-small s n seats in omega arith)) (omega (arith, above-length (recall s) (in_order s))) in
    let hires : size (counts_text (above_zero (hire s) (in_order s))) ≤ 25600 =
    counts-size _ (above-small (hire s) (in_order s) o.all (λ n. let a = allotment-small s n hard h in omega arith)) (omega (arith, above-length (hire s) (in_order s))) in
    let tail = lit-part (codes " hire ") (counts_text (above_zero (hire s) (in_order s))) 25600 (omega arith) hires in
    let both : size (counts_text (above_zero (recall s) (in_order s)) ++ (codes " hire " ++ counts_text (above_zero (hire s) (in_order s)))) ≤ 51440 =
    omega (arith, size-append (counts_text (above_zero (recall s) (in_order s))) (codes " hire " ++ counts_text (above_zero (hire s) (in_order s)))) in
    let all = lit-part (codes "recall ") _ 51440 (omega arith) both in
    omega arith

-- Lists alone is answered by lists, which are those of the market
step-size : (s : State) (seat : ℕ) (cmd : Cmd) → Few s.arenas → s.hard ≤ 65535 → length s.seats ≤ 64 → size (reply_text (step s seat cmd).0) ≤ 52000
step-size s seat cmd h hard seats = elim (cases_Bool (is_listed (step s seat cmd).0)) [
  | inl listed ↦ subst (λ (o : Outcome). size (reply_text o.0) ≤ 52000) (sym ((steps s seat cmd).listed listed)) (lists-size s h hard seats)
  | inr other ↦ let small = reply-size (step s seat cmd).0 other in omega arith
]

-- ---- the lines of a history

line-length : (cmd reply : List ℕ) (seat : ℕ) → length (escape cmd) ≤ 5000 → length (escape reply) ≤ 52000 → length (fields_line cmd reply seat) ≤ 65536
line-length cmd reply seat c r = let s = decimal-length seat in simp length-append (omega arith)

all-short : (levels : ℕ) (log : List Entry) (s : State) → s.last ≤ 4294967294 → Few s.arenas → s.hard ≤ 65535 → length s.seats ≤ 64 → IsLegal s log → All (IsShort levels) log
unfolding size
all-short levels [] s last h hard seats legal = All-nil (IsShort levels)
all-short levels (e ∷ log) s last h hard seats legal =
    let o = step s e.call.seat e.call.cmd in
    let due : e.reply ≡ o.0 = cc in
    let rest : IsLegal o.1 log = cc in
    let same = steps s e.call.seat e.call.cmd in
    let reply : size (reply_text e.reply) ≤ 52000 = subst (λ (r : Reply). size (reply_text r) ≤ 52000) (sym due) (step-size s e.call.seat e.call.cmd h hard seats) in
    All-cons (IsShort levels) e log (line-length (cmd_text levels e.call.cmd) (reply_text e.reply) e.call.seat (cmd-size levels e.call.cmd) reply)
    (all-short levels log o.1 (omega (arith, same.last)) (few-step s e.call.seat e.call.cmd last h) (omega (arith, same.hard)) (omega (arith, same_seats s e.call.seat e.call.cmd)) rest)

pub short-history : (start : State) (history : List Entry) → IsOpening start → IsLegal start history → All (IsShort start.levels) history
short-history start history opened legal =
    let none : start.arenas ≡ [] = ap (λ (s : State). s.arenas) opened.same in
    let begun : Few start.arenas = subst (λ (arenas : List Arena). Few arenas) (sym none) (let few : length {A = Arena} [] ≤ 1024 = omega arith in record { few = few; all = All-nil IsBounded }) in
    all-short start.levels history start opened.last.1 begun opened.hard.1 opened.seats.1 legal
