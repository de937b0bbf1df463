-- Words that clap takes name the subcommand `run`, `explain`, `drive` or `chart`, with a number for each of its options, or `replay`.
use Rattle.std.proofs.Common.{◌≡◌, ◌∙◌, ◌&&◌, ◌||◌, cond, not, ℕ, Bool, true, false, refl, sym, subst, List, [], ◌∷◌, Option, Some, None, is_some, option_map, inl, inr, true≢false, codes, pos, bytes_eq, drop, find, fold, slice_get}
use Rattle.std.specs.List.{list_any}
use Rattle.std.specs.Option.{option_map_or}
use Rattle.clap.specs.Facts.{explicit_source}
use Rattle.clap.specs.Takes.{is_given}
use Rattle.std.proofs.lemmas.Slice.Eq.{bytes_eq-Decides}
use Rattle.clap.specs.Lexer.{long_of, short_of}
use Rattle.clap.specs.Walk.{Held, Names, Outcome, Row, Rule, Step, Text, Waiting, Walk, after_flag, after_step, arg_by_index, done, idle, long_met, long_or_other, next, nothing_held, option, plain, plain_word, positional, refused, rows_after, short_or_plain, subcommand, subcommand_met, subcommand_or_other, to_positional, trailing, value, waits, walk, walk_from, walked, walked_from, word_met, arg_by_long, bundle, finished, settled}
use Rattle.clap.specs.Faults.{check_fault, defaults_fault, entered_fault, fault_of, level_fault, other_fault, settle_fault, step_fault, turn_fault, walk_fault, word_fault}
use Rattle.clap.specs.Kinds.{check_kinds, or_else}
use Rattle.clap.specs.Simple.{App, Shape, argument_words, built, entered, names_of, rows_at, subcommand_of}
use Rattle.clap.specs.ValueTests.{is_signed_in}
use Rattle.clap.specs.declared.builder.value_parser.ValueParser.TheVariants.{Signed}
use Rattle.clap.proofs.ValueTestLemmas.{accepts-Accepts}
use Rattle.market_words.specs.Words.{market_app}
use Rattle.market_words.specs.Passed.{HasChartNumbers, HasNumber, HasMarketNumbers, NamesSubcommand}
use Rattle.market_words.proofs.Rows.{HasRule, Holds, Only, and_true, is_at, no_kind, or_else_nil, row_fits}
use Rattle.market_words.proofs.Walked.{level_holds}

-- ---- no call for help

-- the walk has not stopped at the subcommand `help`
abbrev NoHelp : Option (Text × List Text) → Type 0
NoHelp o = option_map_or (λ p. bytes_eq p.0 (codes "help")) o false ≡ false

-- nor does this step
abbrev StepNoHelp : Step → Type 0
StepNoHelp (subcommand name) = bytes_eq name (codes "help") ≡ false
StepNoHelp (next waiting) = Unit {0}
StepNoHelp (trailing position) = Unit {0}
StepNoHelp value = Unit {0}

plain_no_help : (c : List Rule) (waiting : Waiting) (word : Text) (h : Held) → StepNoHelp (plain_word c waiting word h).1
plain_no_help c idle word h = tt
plain_no_help c positional word h = tt
plain_no_help c (option id) word h = tt

after_flag_no_help : (c : List Rule) (waiting : Waiting) (word : Text) (h : Held) (o : Outcome) → StepNoHelp (after_flag c waiting word h o).1
after_flag_no_help c waiting word h done = tt
after_flag_no_help c waiting word h (waits id) = tt
after_flag_no_help c waiting word h plain = plain_no_help c waiting word h
after_flag_no_help c waiting word h refused = plain_no_help c waiting word h

flag_word_no_help : (c : List Rule) (waiting : Waiting) (word : Text) (o : Option (Text × Option Text)) (h : Held)
    → StepNoHelp (long_or_other c waiting word o h).1
flag_word_no_help c waiting word (Some p) h = after_flag_no_help c waiting word (long_met c (arg_by_long c p.0) p.1 h).0 (long_met c (arg_by_long c p.0) p.1 h).1
flag_word_no_help c waiting word None h = go (short_of word)
  where
    go : (o : Option Text) → StepNoHelp (short_or_plain c waiting word o h).1
    go None = plain_no_help c waiting word h
    go (Some flags) = after_flag_no_help c waiting word (bundle c flags h).0 (bundle c flags h).1

-- a command that answers `help`
module _ (s : Shape) (helps : s.disable_help_subcommand ≡ false) where
  other_no_help : (o : Option Text) (waiting : Waiting) (position : ℕ) (word : Text) (h : Held) → other_fault s o word h ≡ []
      → StepNoHelp (subcommand_or_other s.rules o waiting position word h).1
  other_no_help (Some name) waiting position word h e =
      let asked : (bytes_eq name (codes "help") && not s.disable_help_subcommand) ≡ false = (no_kind _ _ _ _ e).0 in
      and_true _ (subst (λ (b : Bool). (bytes_eq name (codes "help") && not b) ≡ false) helps asked)
  other_no_help None waiting position word h e = go (bytes_eq word (45 ∷ 45 ∷ []))
    where
      go : (t : Bool) → StepNoHelp (cond t (h, trailing position) (long_or_other s.rules waiting word (long_of word) h)).1
      go true = tt
      go false = flag_word_no_help s.rules waiting word (long_of word) h

  word_no_help : (names : Names) (is_trailing : Bool) (waiting : Waiting) (position : ℕ) (word : Text) (h : Held)
      → word_fault s names is_trailing waiting word h ≡ [] → StepNoHelp (word_met s.rules names is_trailing waiting position word h).1
  word_no_help names true waiting position word h e = tt
  word_no_help names false waiting position word h e = other_no_help (subcommand_met names waiting word) waiting position word h e

  step_no_help : (w : Walk) (word : Text) (h : Held) (step : Step) → StepNoHelp step → NoHelp w.stopped → NoHelp (after_step s.rules word w h step).stopped
  step_no_help w word h (next waiting) e ok = ok
  step_no_help w word h (trailing position) e ok = ok
  step_no_help w word h (subcommand name) e ok = e
  step_no_help w word h value e ok = go (arg_by_index s.rules w.position)
    where
      go : (o : Option Rule) → NoHelp (to_positional s.rules o word w h).stopped
      go None = ok
      go (Some b) = refl

  turn_no_help : (names : Names) (w : Walk) (word : Text) → turn_fault s names w word ≡ [] → NoHelp w.stopped → NoHelp (walked s.rules names w word).stopped
  unfolding walked
  turn_no_help names w word e ok = go w.stopped e ok
    where
      met : Held × Step
      met = word_met s.rules names w.is_trailing w.waiting w.position word w.held

      go : (o : Option (Text × List Text))
          → cond (is_some o) [] (or_else (word_fault s names w.is_trailing w.waiting word w.held) (step_fault s w.position met.0 met.1)) ≡ []
          → NoHelp o → NoHelp (walked_from s.rules names o w word).stopped
      go (Some p) free same = same
      go None free same =
          let parts = or_else_nil (word_fault s names w.is_trailing w.waiting word w.held) _ free in
          step_no_help w word met.0 met.1 (word_no_help names w.is_trailing w.waiting w.position word w.held parts.0) ok

  walk_no_help : (names : Names) (w : Walk) (words : List Text) → walk_fault s names w words ≡ [] → NoHelp w.stopped
      → NoHelp (fold (walked s.rules names) w words).stopped
  unfolding walk_fault
  walk_no_help names w [] e ok = ok
  walk_no_help names w (word ∷ rest) e ok =
      let parts = or_else_nil (turn_fault s names w word) _ e in
      walk_no_help names (walked s.rules names w word) rest parts.1 (turn_no_help names w word parts.0 ok)

-- ---- the options

abbrev market : App
market = built market_app

abbrev first_shape : List Shape → Shape
first_shape [] = market_app.top
first_shape (s ∷ rest) = s

-- the subcommands as they are built
abbrev run : Shape
run = first_shape market.subs

abbrev explain : Shape
explain = first_shape (drop 1 market.subs)

abbrev replay : Shape
replay = first_shape (drop 2 market.subs)

abbrev drive : Shape
drive = first_shape (drop 3 market.subs)

abbrev chart : Shape
chart = first_shape (drop 4 market.subs)

other : {X : Type 0} → false ≡ true → X
other e = absurd (true≢false (sym e))

-- each of the market's options has its rule, and no other rule has its name
record HasMarketRules (rules : List Rule) : Type 0 where
  pub only_base : Only (codes "base") (codes "8") 65536 rules
  pub only_hard : Only (codes "hard") (codes "64") 65535 rules
  pub only_seats : Only (codes "seats") (codes "4") 64 rules
  pub only_levels : Only (codes "levels") (codes "3") 8 rules
  pub only_last : Only (codes "last") (codes "1048576") 4294967294 rules
  pub has_base : HasRule (codes "base") (codes "8") 65536 rules
  pub has_hard : HasRule (codes "hard") (codes "64") 65535 rules
  pub has_seats : HasRule (codes "seats") (codes "4") 64 rules
  pub has_levels : HasRule (codes "levels") (codes "3") 8 rules
  pub has_last : HasRule (codes "last") (codes "1048576") 4294967294 rules

run_rules : HasMarketRules run.rules
run_rules = record {
  only_base = ((λ _. refl), (other, (other, (other, (other, (other, (other, (other, tt))))))));
  only_hard = (other, ((λ _. refl), (other, (other, (other, (other, (other, (other, tt))))))));
  only_seats = (other, (other, ((λ _. refl), (other, (other, (other, (other, (other, tt))))))));
  only_levels = (other, (other, (other, ((λ _. refl), (other, (other, (other, (other, tt))))))));
  only_last = (other, (other, (other, (other, ((λ _. refl), (other, (other, (other, tt))))))));
  has_base = inl refl;
  has_hard = inr (inl refl);
  has_seats = inr (inr (inl refl));
  has_levels = inr (inr (inr (inl refl)));
  has_last = inr (inr (inr (inr (inl refl))));
}

explain_rules : HasMarketRules explain.rules
explain_rules = record {
  only_base = ((λ _. refl), (other, (other, (other, (other, (other, (other, tt)))))));
  only_hard = (other, ((λ _. refl), (other, (other, (other, (other, (other, tt)))))));
  only_seats = (other, (other, ((λ _. refl), (other, (other, (other, (other, tt)))))));
  only_levels = (other, (other, (other, ((λ _. refl), (other, (other, (other, tt)))))));
  only_last = (other, (other, (other, (other, ((λ _. refl), (other, (other, tt)))))));
  has_base = inl refl;
  has_hard = inr (inl refl);
  has_seats = inr (inr (inl refl));
  has_levels = inr (inr (inr (inl refl)));
  has_last = inr (inr (inr (inr (inl refl))));
}

number_held : (name : Text) (high : ℕ) (rows : List Row) → Holds name high rows → HasNumber name high rows
number_held name high rows h = go (find (is_at name) rows) refl h
  where
    first : (r : Row) (o : Option Text) → find (is_at name) rows ≡ Some r → slice_get r.values 0 ≡ o → option_map_or (is_signed_in (pos 1) (pos high)) o false ≡ true
        → HasNumber name high rows
    first r None is at fits = absurd (true≢false (sym fits))
    first r (Some word) is at fits = record {
      word = word;
      found = rw is at;
      within = accepts-Accepts false (Signed (pos 1) (pos high)) word fits;
    }

    go : (o : Option Row) → find (is_at name) rows ≡ o → option_map_or (row_fits high) o false ≡ true → HasNumber name high rows
    go None is fits = absurd (true≢false (sym fits))
    go (Some r) is fits = first r (slice_get r.values 0) is refl fits

-- a subcommand in which a second use of an option is an error
module _ (s : Shape) (single : s.args_override_self ≡ false) where
  option_held : (name default : Text) (high : ℕ) → Only name default high s.rules → HasRule name default high s.rules → is_signed_in (pos 1) (pos high) default ≡ true
      → (words : List Text) → level_fault s [] nothing_held words false [] ≡ [] → HasNumber name high (rows_after s.rules [] words)
  option_held name default high only has passes words e = number_held name high _ (level_holds name default high s only single words false [] passes has e)

-- a subcommand with the market's options
module _ (s : Shape) (rules : HasMarketRules s.rules) (single : s.args_override_self ≡ false) where
  numbers : (words : List Text) → level_fault s [] nothing_held words false [] ≡ [] → HasMarketNumbers (rows_after s.rules [] words)
  numbers words e = record {
    base = option_held s single (codes "base") (codes "8") 65536 rules.only_base rules.has_base refl words e;
    hard = option_held s single (codes "hard") (codes "64") 65535 rules.only_hard rules.has_hard refl words e;
    seats = option_held s single (codes "seats") (codes "4") 64 rules.only_seats rules.has_seats refl words e;
    levels = option_held s single (codes "levels") (codes "3") 8 rules.only_levels rules.has_levels refl words e;
    last = option_held s single (codes "last") (codes "1048576") 4294967294 rules.only_last rules.has_last refl words e;
  }

drive_only : Only (codes "workers") (codes "4") 16 drive.rules
drive_only = ((λ _. refl), (other, (other, tt)))

workers_held : (words : List Text) → level_fault drive [] nothing_held words false [] ≡ [] → HasNumber (codes "workers") 16 (rows_after drive.rules [] words)
workers_held words e = option_held drive refl (codes "workers") (codes "4") 16 drive_only (inl refl) refl words e

chart_held : (words : List Text) → level_fault chart [] nothing_held words false [] ≡ [] → HasChartNumbers (rows_after chart.rules [] words)
chart_held words e = record {
  width = option_held chart refl (codes "width") (codes "112") 1792 ((λ _. refl), (other, (other, (other, (other, (other, tt)))))) (inl refl) refl words e;
  from = option_held chart refl (codes "from") (codes "1") 4294967295 (other, ((λ _. refl), (other, (other, (other, (other, tt)))))) (inr (inl refl)) refl words e;
  to = option_held chart refl (codes "to") (codes "4294967295") 4294967295 (other, (other, ((λ _. refl), (other, (other, (other, tt)))))) (inr (inr (inl refl))) refl words e;
}

-- ---- the subcommand

-- without a subcommand the last checks fail
check_has : (rows : List Row) (has : Bool) → check_fault market.top rows has ≡ [] → has ≡ true
check_has rows true e = refl
check_has rows false e =
    go (not (list_any (λ r. explicit_source r.source) rows)) (list_any (λ a. a.required && not (is_given a.id rows)) market.top.rules) e
  where
    go : (wants_help wants_argument : Bool) → check_kinds wants_help true wants_argument ≡ [] → false ≡ true
    go true wants_argument free = absurd (cc)
    go false wants_argument free = absurd (cc)

not_help : (name : Text) → bytes_eq name (codes "help") ≡ false → bytes_eq (codes "help") name ≡ false
not_help name e = go (bytes_eq (codes "help") name) refl
  where
    go : (b : Bool) → bytes_eq (codes "help") name ≡ b → b ≡ false
    go false same = refl
    go true same =
        let is : codes "help" ≡ name = (bytes_eq-Decides (codes "help") name).0 same in
        absurd (true≢false (sym ((bytes_eq-Decides name (codes "help")).1 (sym is)) ∙ e))

enters_one : (stop : Option (Text × List Text)) → NoHelp stop → is_some (entered market stop) ≡ true → entered_fault market stop ≡ []
    → (found : Text × List Row) × (entered market stop ≡ Some found) × NamesSubcommand found
enters_one None no_help some e = absurd (true≢false (sym some))
enters_one (Some p) no_help some e =
    go (bytes_eq (codes "run") p.0) (bytes_eq (codes "explain") p.0) (bytes_eq (codes "replay") p.0) (bytes_eq (codes "drive") p.0) (bytes_eq (codes "chart") p.0) (bytes_eq (codes "help") p.0) (not_help p.0 no_help) some e
  where
    help : Shape
    help = first_shape (drop 5 market.subs)

    met : Bool → Bool → Bool → Bool → Bool → Bool → Option Shape
    met is_run is_explain is_replay is_drive is_chart is_help =
        cond (is_run || false) (Some run) (cond (is_explain || false) (Some explain) (cond (is_replay || false) (Some replay) (cond (is_drive || false) (Some drive)
        (cond (is_chart || false) (Some chart) (cond (is_help || false) (Some help) None)))))

    go : (is_run is_explain is_replay is_drive is_chart is_help : Bool) → is_help ≡ false
        → is_some (option_map (λ s. rows_at s p.1) (met is_run is_explain is_replay is_drive is_chart is_help)) ≡ true
        → option_map_or (λ s. level_fault s [] nothing_held p.1 false []) (met is_run is_explain is_replay is_drive is_chart is_help) [] ≡ []
        → (found : Text × List Row) × (option_map (λ s. rows_at s p.1) (met is_run is_explain is_replay is_drive is_chart is_help) ≡ Some found) × NamesSubcommand found
    go true is_explain is_replay is_drive is_chart is_help none has free =
        (rows_at run p.1, refl, inl (record { name = inl refl; numbers = numbers run run_rules refl p.1 free }))
    go false true is_replay is_drive is_chart is_help none has free =
        (rows_at explain p.1, refl, inl (record { name = inr refl; numbers = numbers explain explain_rules refl p.1 free }))
    go false false true is_drive is_chart is_help none has free = (rows_at replay p.1, refl, inr (inl refl))
    go false false false true is_chart is_help none has free = (rows_at drive p.1, refl, inr (inr (inl (record { name = refl; workers = workers_held p.1 free }))))
    go false false false false true is_help none has free = (rows_at chart p.1, refl, inr (inr (inr (record { name = refl; numbers = chart_held p.1 free }))))
    go false false false false false false none has free = absurd (true≢false (sym has))
    go false false false false false true none has free = absurd (true≢false none)

-- where clap finds no fault the words name a subcommand
pub entered_one : (words : List Text) → fault_of market_app words ≡ []
    → (found : Text × List Row) × (subcommand_of market_app words ≡ Some found) × NamesSubcommand found
entered_one words e =
    let rest = argument_words market_app words in
    let names = names_of market in
    let w = walk market.top.rules names nothing_held rest in
    let walk_parts = or_else_nil (walk_fault market.top names (walk_from nothing_held) rest) _ e in
    let below_parts = or_else_nil (entered_fault market w.stopped) _ walk_parts.1 in
    let settle_parts = or_else_nil (settle_fault market.top.rules market.top.args_override_self w.held) _ below_parts.1 in
    let default_parts = or_else_nil (defaults_fault (settled market.top.rules w.held).rows market.top.rules) _ settle_parts.1 in
    let has : is_some (entered market w.stopped) ≡ true = check_has (finished market.top.rules w.held) _ default_parts.1 in
    enters_one w.stopped (walk_no_help market.top refl names (walk_from nothing_held) rest walk_parts.0 refl) has below_parts.0
