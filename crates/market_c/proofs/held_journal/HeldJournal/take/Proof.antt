-- `take` moves the journal out, and leaves the room.
use mathlib.Core.Path.{◌≡◌, refl, sym, subst}
use mathlib.Core.List.{List, [], ◌∷◌, ◌++◌}
use Rattle.std.specs.Prelude.{Option, Some, None, IsSome}
use lib.Dec.{T}
use seplogic.Ra.Ura.{Ura}
use base.Fraction.{full_share}
use mir.Val.{Val}
use mir.Raw.{raw as bare}
use base.Logic.{SProp, ent, id⊢}
use base.Fml.{ftrue, fsep, fat, froom}
use prog.Memory.{Memory}
use prog.Routine.{Routine}
use prog.Wp.{Env, WpFn, Tables}
use types.Logic.{Logic}
use contract.Monad.{Fun, fact}
use contract.Running.{tables, tables_of}
use sound.WpLaws.{WpFn-mono}
use types.Kit.{Item, ‵, raw, some, given, ◌⊛◌, at_ret, ◌$◌, ◌∵◌, !, qed, by, move, keep, drop, pick, learn, use1, use2, join, split, fsplit, fjoin, suffices, done, rewrite}
use types.Part.{whole, sub, agg}
use types.Run.{look, load, stop, fld, no_more, and_then, of_opd, first, blocks, exec, returns, enter}
use types.ByLocal.{alloc_all, pass_all, free_all, look_at, get, get_in, through, sets, sets_last, env}
use denote.Memory.{part_at}
use denote.RawPtr.{block_ptr}
use denote.Exit.{yes}
use denote.Steps.{nothing, heard}
use denote.Struct.Tuple.{Tuple}
use denote.Triple.Spec.{triple_of}
use denote.Triple.Table.{entered}
use denote.Triple.Walked.{says, Stays, stay_dropped, walk_of, ends_at, Goes-dropped, walk_Meets}
use Rattle.core.proofs.alloc.Calls.{token}
use Rattle.std_alloc.proofs.Pairs.{pair_val, pair_Typed, pair_of}
use Rattle.std_alloc.proofs.RawLayout.{as_raw}
use Rattle.std_alloc.proofs.OfVacant.{vacant_ty, vacant_val, vacant_typed, Vacant-made}
use Rattle.std_alloc.proofs.BoxSteps.Form.{D, τ, own, Good, R, B, handle, word, box_typed}
use Rattle.std_alloc.proofs.BoxSteps.Steps.{el_out, box_out}
use Rattle.std_alloc.proofs.VecSteps.Shapes.{after}
use Rattle.journal_text.specs.contracts.unread.Unread.{the_row as unread_row}
use Rattle.market_c.specs.contracts.held_journal.HeldJournal as held
use Rattle.market_c.proofs.AsJournalBox.{E, V, S, OfHeldJournal}
use Rattle.market_c.specs.contracts.held_journal.HeldJournal.take as F
use Rattle.market_c.specs.contracts.held_journal.HeldJournal.take.Key.{name as #self}
use Rattle.market_c.proofs.held_journal.HeldJournal.take.Statement as stated
use Rattle.market_c.proofs.held_journal.HeldJournal.take.Code as code

abbrev stayed : Stays (F.ended).signature.params (F.ended).kept
stayed = (stay_dropped OfHeldJournal yes, tt)

module _ {M : Type 1} {𝓤 : Ura M} (𝓛 : Logic 𝓤) (at_mem : Memory → SProp 𝓤) (run : Routine → Fun 𝓤) (𝓣 : Tables 𝓤 𝓛.H) where
  open 𝓛 use {H}

  module _ (z : (walk_of 𝓛 F.ended stayed (F.clauses 𝓛 at_mem run)).Ghost) where
    abbrev h : (held.the_row).Denot
    h = z.0.3.0

    abbrev Goal : Type 1
    Goal = ent 𝓤 ((walk_of 𝓛 F.ended stayed (F.clauses 𝓛 at_mem run)).pre z) (WpFn 𝓤 H 𝓣.C 𝓣.Λ code.function (z.0.4.0 ++ []) ((walk_of 𝓛 F.ended stayed (F.clauses 𝓛 at_mem run)).post z))

    at_some : (m : unread_row.Denot) → h.unread ≡ Some m → Goal
    at_some m is =
        let Post = (walk_of 𝓛 F.ended stayed (F.clauses 𝓛 at_mem run)).post z in
        let a = h.alloc in
        let v : D E = record { ptr = h.ptr; alloc = a; value = m } in
        qed 𝓛 ((‵ ftrue ⊛ ‵ (fsep ((held.the_row).own_val h z.0.4.0) ftrue)) ∷ raw (fact 𝓤 (IsSome h.unread)) ∷ []) ∵ split ! $ drop ! $ fsplit ! $
        rewrite ! 0 (λ (mk : Option unread_row.Denot). ‵ ((held.the_row).own_val (record h { unread = mk }) z.0.4.0)) is refl $
        use1 𝓛 (‵ ((B E).own_val v z.0.4.0)) (id⊢ 𝓤 _) $
        box_out E ! v z.0.4.0 (λ b o hv e ws fa. keep ! (0 ∷ 1 ∷ 2 ∷ []) $
        let w = word E hv b o in let u : Val = vacant_val hv b o in
        let room : V.Denot = record { ptr = block_ptr b o; alloc = a } in
        let Γ : List (Item 𝓤) = ‵ (part_at (R E) full_share m b o) ∷ ‵ (token E.al a (bare (τ E)) (block_ptr b o)) ∷ ‵ (handle E a hv) ∷ [] in
        by ! (subst (λ (us : List Val). ent 𝓤 (types.Kit.⋆ 𝓛 Γ) (WpFn 𝓤 H 𝓣.C 𝓣.Λ code.function (us ++ []) Post)) (sym ws)
        (qed 𝓛 Γ ∵ use1 𝓛 (some (λ (s : Val). given (Good E s) (‵ (fat full_share (τ E) b o s) ⊛ ‵ (own E m (s ∷ []))))) (el_out E 𝓛 m b o) $ pick ! (λ s. learn ! (λ t. split ! $
        enter ! 𝓣.C 𝓣.Λ code.function (w ∷ []) _ $ alloc_all ! (λ ls. pass_all ! refl (box_typed E hv b o fa, tt) $
        let En : Env 𝓤 H = env code.function.locals ls in
        sets ! (of_opd ! (get_in ! (fld ! refl (stop !)) (sub ! 0 refl (whole !)))) refl (tt, tt) $ sets ! (of_opd ! (get_in ! (fld ! refl (stop !)) (sub ! 1 refl (whole !)))) refl fa $
        sets ! (of_opd ! (get ! refl)) refl (tt, tt) $ first ! $ blocks ! $ sets_last ! (of_opd ! (load ! (through ! refl (stop !)) (look ! 0 refl))) refl t $
        exec ! 𝓣.C 𝓣.Λ En (after 4 code.function.body) (at_ret En Post) $
        sets ! (of_opd ! (get ! refl)) refl t $ sets ! (of_opd ! (get ! refl)) refl t $
        sets ! (agg ! (and_then ! (get ! refl) (and_then ! (get ! refl) (no_more !)))) refl (vacant_typed E.al (R E) hv b o fa) $
        sets ! (agg ! (and_then ! (get ! refl) (and_then ! (get ! refl) (no_more !)))) refl (pair_Typed (τ E) (vacant_ty E.al (R E)) s u t (vacant_typed E.al (R E) hv b o fa)) $
        returns ! (look_at ! 0 refl) $ free_all ! refl $
        use1 𝓛 (‵ (froom (τ E) b o)) (𝓛.laws.at_room (τ E) b o s) $ as_raw ! (τ E) b o $ move ! (0 ∷ 2 ∷ 3 ∷ []) $ Vacant-made E.al (R E) ! a b o $ move ! (1 ∷ []) $
        use2 𝓛 (‵ ((Tuple (S ∷ V ∷ [])).own_val (m, room) (pair_val s u ∷ []))) (pair_of 𝓛 (R E) V m room s u) $
        suffices ! _ (ends_at 𝓛 F.ended stayed (F.clauses 𝓛 at_mem run) z (pair_val s u) (m, room) (tt, tt) (tt, tt)) $ says ! (sym is) $
        nothing ! $ nothing ! $ fjoin ! $ join ! $ nothing ! $ join ! $ done !))))))

    at_none : h.unread ≡ None → Goal
    at_none is =
        qed 𝓛 ((‵ ftrue ⊛ ‵ (fsep ((held.the_row).own_val h z.0.4.0) ftrue)) ∷ raw (fact 𝓤 (IsSome h.unread)) ∷ []) ∵ move ! (1 ∷ []) $
        heard ! (IsSome h.unread) (λ some. absurd (subst T (sym (subst IsSome is some)) tt))

    walk : (mk : Option unread_row.Denot) → h.unread ≡ mk → Goal
    walk (Some m) is = at_some m is
    walk None is = at_none is

pub take_spec : {M : Type 1} → stated.statement M
unfolding tables_of
take_spec 𝓤 𝓛 𝓜 𝓡 wired =
    let 𝓣 : Tables 𝓤 𝓛.H = tables_of 𝓤 𝓛.H 𝓜 (tables 𝓤 𝓛.H 𝓜 𝓡 𝓡.env) in
    entered 𝓤 𝓛.H (triple_of 𝓛 F.signature (F.spec 𝓛 𝓜.mem 𝓡.returns)) 𝓣.C 𝓣.Λ #self code.function (code.unfolded 𝓤 𝓛.H 𝓜 𝓡 wired)
    (walk_Meets 𝓛 F.ended stayed (Goes-dropped 𝓛 0 OfHeldJournal yes (λ κs x f. refl), tt) (F.clauses 𝓛 𝓜.mem 𝓡.returns) (WpFn 𝓤 𝓛.H 𝓣.C 𝓣.Λ code.function) (WpFn-mono 𝓤 𝓛.H 𝓛.laws 𝓣 code.function)
    (λ z. walk 𝓛 𝓜.mem 𝓡.returns 𝓣 z z.0.3.0.unread refl))
