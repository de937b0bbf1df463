-- `of` writes the journal into the room, and the place owns both.
use mathlib.Core.Path.{refl, sym, subst}
use mathlib.Core.List.{List, [], ◌∷◌, ◌++◌}
use Rattle.std.specs.Prelude.{Some}
use seplogic.Ra.Ura.{Ura}
use base.Fraction.{full_share}
use mir.Val.{Val}
use mir.Raw.{raw as bare}
use base.Logic.{SProp, ent, emp, id⊢}
use base.Fml.{ftrue, froom}
use prog.Memory.{Memory}
use prog.Routine.{Routine}
use prog.Wp.{Env, WpFn, Tables}
use types.Logic.{Logic}
use contract.Monad.{Fun}
use contract.Running.{tables, tables_of}
use sound.WpLaws.{WpFn-mono}
use types.Kit.{Item, ‵, raw, ◌⊛◌, at_ret, ◌$◌, ◌∵◌, !, qed, by, move, keep, drop, use1, use2, join, split, fsplit, fjoin, suffices, done}
use types.Part.{whole, sub, agg}
use types.Run.{init, stop, fld, no_more, and_then, of_opd, assigns_last, first, blocks, exec, returns, enter}
use types.ByLocal.{alloc_all, pass_all, free_all, look_at, get, get_in, through, sets, env}
use denote.RattleType.{owns}
use denote.Memory.{part_at}
use denote.RawPtr.{block_ptr}
use denote.Exit.{yes}
use denote.Signature.{type_at}
use denote.Steps.{nothing}
use denote.Triple.Spec.{triple_of}
use denote.Triple.Table.{entered}
use denote.Triple.Walked.{says, Stays, stay_dropped, walk_of, ends_at, Goes-dropped, walk_Meets}
use Rattle.core.proofs.alloc.Calls.{token, Goes-blank}
use Rattle.std_alloc.proofs.RawLayout.{as_written}
use Rattle.std_alloc.proofs.OfVacant.{vacant_val, vacant_typed, Vacant-had}
use Rattle.std_alloc.proofs.BoxSteps.Form.{D, τ, own, R, handle, word, box_typed}
use Rattle.std_alloc.proofs.BoxSteps.Steps.{el_in, el_tells, box_in}
use Rattle.std_alloc.proofs.VecSteps.Shapes.{after}
use Rattle.market_c.proofs.AsJournalBox.{E, V, S, OfRoom, OfUnread}
use Rattle.market_c.specs.contracts.held_journal.HeldJournal.of as F
use Rattle.market_c.specs.contracts.held_journal.HeldJournal.of.Key.{name as #self}
use Rattle.market_c.proofs.held_journal.HeldJournal.of.Statement as stated
use Rattle.market_c.proofs.held_journal.HeldJournal.of.Code as code

abbrev stayed : Stays (F.ended).signature.params (F.ended).kept
stayed = (stay_dropped OfRoom yes, (stay_dropped OfUnread yes, tt))

module _ {M : Type 1} {𝓤 : Ura M} (𝓛 : Logic 𝓤) (at_mem : Memory → SProp 𝓤) (run : Routine → Fun 𝓤) (𝓣 : Tables 𝓤 𝓛.H) where
  open 𝓛 use {H}

  walk : (z : (walk_of 𝓛 F.ended stayed (F.clauses 𝓛 at_mem run)).Ghost)
      → ent 𝓤 ((walk_of 𝓛 F.ended stayed (F.clauses 𝓛 at_mem run)).pre z) (WpFn 𝓤 H 𝓣.C 𝓣.Λ code.function (z.0.4.0 ++ (z.0.4.1.0 ++ [])) ((walk_of 𝓛 F.ended stayed (F.clauses 𝓛 at_mem run)).post z))
  walk z =
      let Post = (walk_of 𝓛 F.ended stayed (F.clauses 𝓛 at_mem run)).post z in
      let d = z.0.3.0 in let x = z.0.3.1.0 in let us = z.0.4.0 in let vs = z.0.4.1.0 in let a = d.alloc in
      let To = type_at (F.signature).result tt in
      qed 𝓛 ((‵ ftrue ⊛ ‵ (owns (V ∷ S ∷ []) (d, (x, tt)) (us, (vs, tt)))) ∷ raw (emp 𝓤) ∷ []) ∵ split ! $ drop ! $ fsplit ! $
      Vacant-had E.al (R E) ! d us (λ b o hv e is fa. move ! (3 ∷ []) $ fsplit ! $ el_tells E ! x vs (λ v ev t. keep ! (2 ∷ 0 ∷ 3 ∷ 4 ∷ []) $
      let w = word E hv b o in
      let new : D E = record { ptr = block_ptr b o; alloc = a; value = x } in
      let made : To.Denot = record { ptr = block_ptr b o; alloc = a; unread = Some x } in
      let Γ : List (Item 𝓤) = ‵ (froom (bare (τ E)) b o) ∷ ‵ (own E x (v ∷ [])) ∷ ‵ (token E.al a (bare (τ E)) (block_ptr b o)) ∷ ‵ (handle E a hv) ∷ [] in
      by ! (subst (λ (ws : List Val × List Val). ent 𝓤 (types.Kit.⋆ 𝓛 Γ) (WpFn 𝓤 H 𝓣.C 𝓣.Λ code.function (ws.0 ++ (ws.1 ++ [])) Post)) (λ i. (sym is i, sym ev i))
      (qed 𝓛 Γ ∵ as_written ! (τ E) b o $ enter ! 𝓣.C 𝓣.Λ code.function (vacant_val hv b o ∷ v ∷ []) _ $ alloc_all ! (λ ls. pass_all ! refl (vacant_typed E.al (R E) hv b o fa, (t, tt)) $
      let En : Env 𝓤 H = env code.function.locals ls in
      sets ! (of_opd ! (get_in ! (fld ! refl (stop !)) (sub ! 0 refl (whole !)))) refl (tt, tt) $ sets ! (of_opd ! (get_in ! (fld ! refl (stop !)) (sub ! 1 refl (whole !)))) refl fa $
      first ! $ blocks ! $ sets ! (of_opd ! (get ! refl)) refl t $ assigns_last ! (of_opd ! (get ! refl)) (through ! refl (stop !)) (init ! 0 refl t) $
      exec ! 𝓣.C 𝓣.Λ En (after 3 code.function.body) (at_ret En Post) $
      sets ! (of_opd ! (get ! refl)) refl (tt, tt) $ sets ! (agg ! (and_then ! (get ! refl) (and_then ! (get ! refl) (no_more !)))) refl (box_typed E hv b o fa) $
      returns ! (look_at ! 0 refl) $ free_all ! refl $
      use2 𝓛 (‵ (part_at (R E) full_share x b o)) (el_in E 𝓛 x b o v) $ box_in E ! new b o x refl refl $ use1 𝓛 (‵ (To.own_val made (w ∷ []))) (id⊢ 𝓤 _) $
      suffices ! _ (ends_at 𝓛 F.ended stayed (F.clauses 𝓛 at_mem run) z w made (tt, (tt, tt)) (tt, (tt, tt))) $ says ! refl $
      nothing ! $ nothing ! $ fjoin ! $ nothing ! $ fjoin ! $ join ! $ nothing ! $ join ! $ done !)))))

pub of_spec : {M : Type 1} → stated.statement M
unfolding tables_of
of_spec 𝓤 𝓛 𝓜 𝓡 wired =
    let 𝓣 : Tables 𝓤 𝓛.H = tables_of 𝓤 𝓛.H 𝓜 (tables 𝓤 𝓛.H 𝓜 𝓡 𝓡.env) in
    entered 𝓤 𝓛.H (triple_of 𝓛 F.signature (F.spec 𝓛 𝓜.mem 𝓡.returns)) 𝓣.C 𝓣.Λ #self code.function (code.unfolded 𝓤 𝓛.H 𝓜 𝓡 wired)
    (walk_Meets 𝓛 F.ended stayed (Goes-dropped 𝓛 0 OfRoom yes (λ κs x f. refl), (Goes-blank 𝓛 0 OfUnread yes (λ κs x f. tt), tt)) (F.clauses 𝓛 𝓜.mem 𝓡.returns) (WpFn 𝓤 𝓛.H 𝓣.C 𝓣.Λ code.function) (WpFn-mono 𝓤 𝓛.H 𝓛.laws 𝓣 code.function)
    (walk 𝓛 𝓜.mem 𝓡.returns 𝓣))
