-- What a walk over words that clap takes keeps: an option's word in its range, and no call for help.
use Rattle.std.proofs.Common.{◌≡◌, ◌&&◌, cond, ℕ, Bool, true, false, zero, suc, refl, subst, List, [], ◌∷◌, length, drop, Option, Some, None, is_some, pos, bytes_eq, chars, encode_utf8, fold, slice_get}
use Rattle.std.specs.Option.{option_map_or}
use Rattle.clap.specs.Lexer.{long_of, short_of}
use Rattle.clap.specs.Walk.{Held, Names, Outcome, Rule, Step, Text, Waiting, Walk, after_flag, after_step, arg_by_id, arg_by_index, arg_by_long, arg_by_short, attached_value, bundle_met, bundle_step, done, flag_met, idle, is_pending, long_met, long_or_other, next, nothing_held, option, option_met, option_word, plain, plain_word, positional, positional_held, pushed, reacted, refused, rows_after, settled, settled_rows, short_met, short_or_plain, subcommand, subcommand_met, subcommand_or_other, takes_several, takes_values, to_positional, trailing, used_by_id, value, waits, walk, walk_from, walked, walked_from, word_met}
use Rattle.clap.specs.Faults.{bundle_step_fault, flag_word_fault, flags_fault, level_fault, long_fault, option_fault, other_fault, positional_fault, react_fault, settle_fault, short_fault, step_fault, stray_fault, turn_fault, use_fault, walk_fault, word_fault}
use Rattle.clap.specs.Kinds.{Kinds, or_else}
use Rattle.clap.specs.Simple.{Shape}
use Rattle.clap.specs.ValueTests.{is_signed_in}
use Rattle.clap.specs.declared.error.kind.ErrorKind.TheVariants.{TooManyValues}
use Rattle.market_words.proofs.Rows.{Fits, HasRule, Holds, Only, Sees, defaults_hold, found_sees, or_else_nil, used_fits}

module _ (name default : Text) (high : ℕ) (c : List Rule) (only : Only name default high c) where
  settle_fits : (h : Held) → settle_fault c false h ≡ [] → Fits name high h.rows → Fits name high (settled c h).rows
  settle_fits h e ok = go h.pending e
    where
      use_found : (p : Text × List Text) (o : Option Rule) → arg_by_id c p.0 ≡ o → option_map_or (λ a. use_fault false a p.1 h.rows) o [] ≡ []
          → Fits name high (used_by_id o p.1 h.rows)
      use_found p None is free = ok
      use_found p (Some b) is free = used_fits name default high b p.1 h.rows (found_sees name default high _ c b only is) free ok

      go : (o : Option (Text × List Text)) → option_map_or (λ p. option_map_or (λ a. use_fault false a p.1 h.rows) (arg_by_id c p.0) []) o [] ≡ []
          → Fits name high (settled_rows c o h.rows)
      go None free = ok
      go (Some p) free = use_found p (arg_by_id c p.0) refl free

  react_fits : (b : Rule) (values : List Text) (h : Held) → Sees name default high b → react_fault c false b values h ≡ [] → Fits name high h.rows
      → Fits name high (reacted c b values h).rows
  react_fits b values h sees e ok =
      let parts = or_else_nil (settle_fault c false h) _ e in
      used_fits name default high b values (settled c h).rows sees parts.1 (settle_fits h parts.0 ok)

  option_fits : (b : Rule) (v : Option Text) (h : Held) → Sees name default high b → option_fault c false b v h ≡ [] → Fits name high h.rows
      → Fits name high (option_met c b v h).0.rows
  option_fits b None h sees e ok = settle_fits h e ok
  option_fits b (Some v) h sees e ok = react_fits b (v ∷ []) h sees e ok

  flag_fits : (b : Rule) (v : Option Text) (h : Held) → Sees name default high b → Fits name high h.rows
      → ◌≡◌ {A = Kinds} (cond (is_some v) (TooManyValues ∷ []) (react_fault c false b [] h)) []
      → Fits name high (flag_met c b v h).0.rows
  flag_fits b None h sees ok e = react_fits b [] h sees e ok
  flag_fits b (Some v) h sees ok e = ok

  long_fits : (o : Option Rule) (v : Option Text) (h : Held) → ((b : Rule) → o ≡ Some b → Sees name default high b) → long_fault c false o v h ≡ []
      → Fits name high h.rows → Fits name high (long_met c o v h).0.rows
  long_fits None v h sees e ok = ok
  long_fits (Some b) v h sees e ok = go (takes_values b) e
    where
      go : (t : Bool) → cond t (option_fault c false b v h) (cond (is_some v) (TooManyValues ∷ []) (react_fault c false b [] h)) ≡ []
          → Fits name high (cond t (option_met c b v h) (flag_met c b v h)).0.rows
      go true free = option_fits b v h (sees b refl) free ok
      go false free = flag_fits b v h (sees b refl) ok free

  short_fits : (o : Option Rule) (rest : Text) (h : Held) (next_met : Held → Held × Outcome) (next_fault : Held → Kinds)
      → ((b : Rule) → o ≡ Some b → Sees name default high b)
      → ((k : Held) → next_fault k ≡ [] → Fits name high k.rows → Fits name high (next_met k).0.rows)
      → short_fault c false o rest h next_fault ≡ [] → Fits name high h.rows → Fits name high (short_met c o rest h next_met).0.rows
  short_fits None rest h next_met next_fault sees after e ok = ok
  short_fits (Some b) rest h next_met next_fault sees after e ok = go (takes_values b) e
    where
      go : (t : Bool) → cond t (option_fault c false b (attached_value rest) h) (or_else (react_fault c false b [] h) (next_fault (reacted c b [] h))) ≡ []
          → Fits name high (cond t (option_met c b (attached_value rest) h) (next_met (reacted c b [] h))).0.rows
      go true free = option_fits b (attached_value rest) h (sees b refl) free ok
      go false free =
          let parts = or_else_nil (react_fault c false b [] h) _ free in
          after (reacted c b [] h) parts.1 (react_fits b [] h (sees b refl) parts.0 ok)

  bundle_fits : (k : ℕ) (flags : Text) (skip : ℕ) (so_far : Outcome) (h : Held) → flags_fault c false k flags skip h ≡ [] → Fits name high h.rows
      → Fits name high (bundle_met c k flags skip so_far h).0.rows
  unfolding bundle_met flags_fault
  bundle_fits zero flags skip so_far h e ok = ok
  bundle_fits (suc k) flags skip so_far h e ok = go (bundle_fits k) (slice_get (chars flags) 0) skip e
    where
      go : ((flags : Text) (skip : ℕ) (so_far : Outcome) (h : Held) → flags_fault c false k flags skip h ≡ [] → Fits name high h.rows
          → Fits name high (bundle_met c k flags skip so_far h).0.rows)
          → (o : Option ℕ) (skip : ℕ) → bundle_step_fault c false o flags skip h (flags_fault c false k) ≡ []
          → Fits name high (bundle_step c o flags skip so_far h (bundle_met c k)).0.rows
      go after None n free = ok
      go after (Some x) zero free =
          let rest = drop (length (encode_utf8 x)) flags in
          short_fits (arg_by_short c x) rest h (bundle_met c k rest 0 done) (flags_fault c false k rest 0)
          (λ b is. found_sees name default high _ c b only is) (λ held clear fit. after rest 0 done held clear fit) free ok
      go after (Some x) (suc n) free = after (drop (length (encode_utf8 x)) flags) n so_far h free ok

  plain_fits : (waiting : Waiting) (word : Text) (h : Held) → Fits name high h.rows → Fits name high (plain_word c waiting word h).0.rows
  plain_fits idle word h ok = ok
  plain_fits positional word h ok = ok
  plain_fits (option id) word h ok = go (arg_by_id c id)
    where
      go : (o : Option Rule) → Fits name high (option_word o id word h).0.rows
      go None = ok
      go (Some b) = ok

  after_flag_fits : (waiting : Waiting) (word : Text) (h : Held) (o : Outcome) → Fits name high h.rows → Fits name high (after_flag c waiting word h o).0.rows
  after_flag_fits waiting word h done ok = ok
  after_flag_fits waiting word h (waits id) ok = ok
  after_flag_fits waiting word h plain ok = plain_fits waiting word h ok
  after_flag_fits waiting word h refused ok = plain_fits waiting word h ok

  flag_word_fits : (waiting : Waiting) (word : Text) (o : Option (Text × Option Text)) (h : Held) → flag_word_fault c false o word h ≡ []
      → Fits name high h.rows → Fits name high (long_or_other c waiting word o h).0.rows
  flag_word_fits waiting word (Some p) h e ok =
      after_flag_fits waiting word _ _ (long_fits (arg_by_long c p.0) p.1 h (λ b is. found_sees name default high _ c b only is) e ok)
  flag_word_fits waiting word None h e ok = go (short_of word) e
    where
      go : (o : Option Text)
          → option_map_or (λ flags. flags_fault c false (length flags) flags h.skip (record h { skip = 0 })) o [] ≡ []
          → Fits name high (short_or_plain c waiting word o h).0.rows
      go None free = plain_fits waiting word h ok
      go (Some flags) free =
          after_flag_fits waiting word _ _ (bundle_fits (length flags) flags h.skip plain (record h { skip = 0 }) free ok)

  positional_fits : (b : Rule) (word : Text) (h : Held) → positional_fault c false b h ≡ [] → Fits name high h.rows
      → Fits name high (positional_held c b word h).rows
  positional_fits b word h e ok = go (is_pending b h.pending && takes_several b) e
    where
      go : (t : Bool) → cond t [] (settle_fault c false h) ≡ [] → Fits name high (pushed b.id word (cond t h (settled c h))).rows
      go true free = ok
      go false free = settle_fits h free ok

-- the rules of a command in which a second use is an error
module _ (name default : Text) (high : ℕ) (s : Shape) (only : Only name default high s.rules) (single : s.args_override_self ≡ false) where
  other_fits : (o : Option Text) (waiting : Waiting) (position : ℕ) (word : Text) (h : Held) → other_fault s o word h ≡ [] → Fits name high h.rows
      → Fits name high (subcommand_or_other s.rules o waiting position word h).0.rows
  other_fits (Some sub) waiting position word h e ok = ok
  other_fits None waiting position word h e ok = go (bytes_eq word (45 ∷ 45 ∷ [])) (subst (λ (again : Bool). cond (bytes_eq word (45 ∷ 45 ∷ [])) [] (flag_word_fault s.rules again (long_of word) word h) ≡ []) single e)
    where
      go : (t : Bool) → cond t [] (flag_word_fault s.rules false (long_of word) word h) ≡ []
          → Fits name high (cond t (h, trailing position) (long_or_other s.rules waiting word (long_of word) h)).0.rows
      go true free = ok
      go false free = flag_word_fits name default high s.rules only waiting word (long_of word) h free ok

  word_fits : (names : Names) (is_trailing : Bool) (waiting : Waiting) (position : ℕ) (word : Text) (h : Held)
      → word_fault s names is_trailing waiting word h ≡ [] → Fits name high h.rows
      → Fits name high (word_met s.rules names is_trailing waiting position word h).0.rows
  word_fits names true waiting position word h e ok = ok
  word_fits names false waiting position word h e ok = other_fits (subcommand_met names waiting word) waiting position word h e ok

  step_fits : (w : Walk) (word : Text) (h : Held) (step : Step) → step_fault s w.position h step ≡ [] → Fits name high h.rows
      → Fits name high (after_step s.rules word w h step).held.rows
  step_fits w word h (next waiting) e ok = ok
  step_fits w word h (trailing position) e ok = ok
  step_fits w word h (subcommand sub) e ok = ok
  step_fits w word h value e ok = go (arg_by_index s.rules w.position) e
    where
      go : (o : Option Rule) → option_map_or (λ a. positional_fault s.rules s.args_override_self a h) o (stray_fault s) ≡ []
          → Fits name high (to_positional s.rules o word w h).held.rows
      go None free = ok
      go (Some b) free =
          positional_fits name default high s.rules only b word h
          (subst (λ (again : Bool). positional_fault s.rules again b h ≡ []) single free) ok

  turn_fits : (names : Names) (w : Walk) (word : Text) → turn_fault s names w word ≡ [] → Fits name high w.held.rows
      → Fits name high (walked s.rules names w word).held.rows
  unfolding walked
  turn_fits names w word e ok = go w.stopped e
    where
      met : Held × Step
      met = word_met s.rules names w.is_trailing w.waiting w.position word w.held

      go : (o : Option (Text × List Text))
          → cond (is_some o) [] (or_else (word_fault s names w.is_trailing w.waiting word w.held) (step_fault s w.position met.0 met.1)) ≡ []
          → Fits name high (walked_from s.rules names o w word).held.rows
      go (Some p) free = ok
      go None free =
          let parts = or_else_nil (word_fault s names w.is_trailing w.waiting word w.held) _ free in
          step_fits w word met.0 met.1 parts.1 (word_fits names w.is_trailing w.waiting w.position word w.held parts.0 ok)

  walk_fits : (names : Names) (w : Walk) (words : List Text) → walk_fault s names w words ≡ [] → Fits name high w.held.rows
      → Fits name high (fold (walked s.rules names) w words).held.rows
  unfolding walk_fault
  walk_fits names w [] e ok = ok
  walk_fits names w (word ∷ rest) e ok =
      let parts = or_else_nil (turn_fault s names w word) _ e in
      walk_fits names (walked s.rules names w word) rest parts.1 (turn_fits names w word parts.0 ok)

  -- the option has its row in the matches of words that clap takes
  pub level_holds : (words : List Text) (has_subcommand : Bool) (below : Kinds) → is_signed_in (pos 1) (pos high) default ≡ true
      → HasRule name default high s.rules → level_fault s [] nothing_held words has_subcommand below ≡ []
      → Holds name high (rows_after s.rules [] words)
  level_holds words has_subcommand below passes has e =
      let walk_parts = or_else_nil (walk_fault s [] (walk_from nothing_held) words) _ e in
      let below_parts = or_else_nil below _ walk_parts.1 in
      let end = (walk s.rules [] nothing_held words).held in
      let settle_parts = or_else_nil (settle_fault s.rules s.args_override_self end) _ below_parts.1 in
      let settle : settle_fault s.rules false end ≡ [] = subst (λ (again : Bool). settle_fault s.rules again end ≡ []) single settle_parts.0 in
      defaults_hold name default high s.rules (settled s.rules end).rows passes only has
      (settle_fits name default high s.rules only end settle (walk_fits [] (walk_from nothing_held) words walk_parts.0 refl))
