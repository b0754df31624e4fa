-- `slot` lends the memory at the address, and the handle follows it.
use Rattle.std.proofs.Common.{◌≡◌, ℕ, List, [], ◌∷◌, refl}
use seplogic.Ra.Ura.{Ura}
use base.Fraction.{full_share}
use mir.Syntax.{named}
use mir.Raw.{raw as bare}
use mir.Val.{Val, vptr}
use base.Logic.{ent, sep, id⊢}
use base.Fml.{Fml, GName, ftrue, fsep, flft}
use types.Logic.{Logic, sem}
use types.Kit.{‵, raw, ◌⊛◌, some, later, at_ret, ◌$◌, ◌∵◌, !, qed, done, move, keep, use1, split, split3, join, fsplit, fsplit3, fjoin, fpack, pick, await, rewrite, suffices, frame, group}
use types.Run.{enter, of_opd, addr, load, stop, fld, first, blocks, exec, returns}
use types.ByLocal.{alloc_all, pass_all, free_all, look_at, get, through, sets, sets_last, env}
use types.Part.{whole, sub, look_in}
use contract.Running.{tables}
use denote.Exit.{no}
use denote.RattleType.{RattleType}
use denote.Memory.{part_at, part_of, mem, cell_at, lone}
use denote.RawPtr.{block_ptr}
use denote.Ref.{MutBor, MutRef, mut_vals, mut_Tells}
use denote.Follow.{follows, Part, lends_Part}
use denote.Signature.{plain, mut_ref_to}
use denote.Steps.{nothing, opens}
use denote.Triple.Walked.{Stays, walk_of, says, stay_dropped, Goes-spent_ref, ends_at}
use Rattle.std.proofs.alloc.Shapes.{after}
use Rattle.std.proofs.raw_atomic.Walks.{proved}
use Rattle.std.specs.contracts.impls.GlobalAllocator.TheImpl.{ghosts}
use Rattle.base_loose.proofs.Words.{two_words}
use Rattle.cedar_c.specs.Lending.{with_slot}
use Rattle.cedar_c.specs.contracts.slot.Slot as slot_type
use Rattle.cedar_c.proofs.Stored.{Heap, Place, opened, closed}
use Rattle.cedar_c.specs.contracts.handle.Handle.slot as f
use Rattle.cedar_c.proofs.handle.Handle.slot.Statement.{statement}
use Rattle.cedar_c.proofs.handle.Handle.slot.Code as code

abbrev Row : RattleType
Row = slot_type.the_row

abbrev stays : Stays f.ended.signature.params f.ended.kept
stays = (stay_dropped (mut_ref_to (0 ∷ []) tt (plain (λ _. Place))) no, tt)

module _ {M : Type 1} {𝓤 : Ura M} (𝓛 : Logic 𝓤) (rb ro : ℕ) (h : Place.Denot) (b o : ℕ) (held : Val) where
  -- All of the handle but its slot.
  abbrev Rest : Fml
  Rest = fsep (fsep (ghosts.dealloc_token h.alloc (bare (lone Row.mir)) (block_ptr b o)) (Heap.own_val h.alloc (held ∷ [])))
      (cell_at full_share Place.mir (two_words (vptr b o) held ∷ []) rb ro)

  back : h.at ≡ block_ptr b o → (x : Row.Denot) → ent 𝓤 (sep 𝓤 (sem 𝓛 ((mem Row).own_at x b o)) (sem 𝓛 Rest)) (sem 𝓛 ((mem Place).own_at (with_slot h x) rb ro))
  unfolding part_of
  back lies x =
      qed 𝓛 (‵ (part_at Row full_share x b o) ∷ ‵ Rest ∷ []) ∵ move ! (1 ∷ []) $ fsplit ! $ fsplit ! $ move ! (3 ∷ 0 ∷ []) $ fjoin ! $
      closed ! h b o held x lies $ move ! (1 ∷ 0 ∷ []) $ fjoin ! $
      fpack ! (List Val) (λ us. fsep (cell_at full_share Place.mir us rb ro) (Place.own_val (with_slot h x) us)) (two_words (vptr b o) held ∷ []) $ done !

pub slot_spec : {M : Type 1} → statement M
slot_spec 𝓤 𝓛 𝓜 𝓡 wired =
    let c = f.clauses 𝓛 𝓜.mem 𝓡.returns in let W = walk_of 𝓛 f.ended stays c in let 𝓣 = tables 𝓤 𝓛.H 𝓜 𝓡 𝓡.env in
    proved 𝓛 f.ended stays c 𝓜 𝓡 (Goes-spent_ref 𝓛 1 (0 ∷ []) tt (plain (λ _. Place)), tt)
    f.Key.name code.function (code.unfolded 𝓤 𝓛.H 𝓜 𝓡 wired)
    (λ κs. (mut_vals, tt)) (λ κs. (mut_Tells (named 0) κs.0 Place, tt)) (λ κs qs bounds a _ are.
    let κ = κs.0 in let q = qs.0 in let r = a.0 in let rb = r.ref_ptr.0 in let ro = r.ref_ptr.1 in let γ = r.ghost_name in let h = r.now in let vs = mut_vals r in
    let y : W.Ghost = ((κs, qs, bounds, a, (vs, tt)), tt) in
    qed 𝓛 (((‵ (flft κ q) ⊛ ‵ ftrue) ⊛ ‵ ((MutRef (named 0) κ Place).own_val r vs) ⊛ ‵ ftrue) ∷ ‵ ftrue ∷ []) ∵
    split ! $ split ! $ move ! (2 ∷ []) $ split ! $ keep ! (0 ∷ 2 ∷ []) $
    enter ! _ _ _ _ _ $ alloc_all ! (λ l. pass_all ! refl ((tt, tt), tt) $
    fsplit3 ! $ move ! (1 ∷ 2 ∷ 3 ∷ []) $ opens ! tt Place rb ro (λ us. move ! (1 ∷ []) $
    opened ! h us (λ b o held lies stored fits. fsplit ! $ move ! (1 ∷ 2 ∷ []) $ fjoin ! $ move ! (1 ∷ []) $
    rewrite ! 2 (λ (ws : List Val). ‵ (cell_at full_share Place.mir ws rb ro)) stored refl $
    -- [the slot; the right to free it, and the allocator; the handle's cell; the open borrow, in three entries]
    let word : Val = two_words (vptr b o) held in
    first ! $ blocks ! $
    sets ! (of_opd ! (load ! (through ! refl (fld ! refl (stop !))) (look_in ! 2 (sub ! 0 refl (whole !))))) refl (tt, tt) $
    sets ! (of_opd ! (get ! refl)) refl (tt, tt) $
    sets_last ! (addr ! (through ! refl (stop !))) refl (tt, tt) $
    exec ! 𝓣.C 𝓣.Λ (env code.Mir.locals l) (after 1 (code.function).body) (at_ret _ (W.post y)) $
    sets ! (of_opd ! (get ! refl)) refl (tt, tt) $
    move ! (1 ∷ 2 ∷ []) $ fjoin ! $ move ! (2 ∷ 3 ∷ 4 ∷ 1 ∷ 0 ∷ []) $ group ! 5 $
    use1 𝓛 (later (some (λ (γ' : GName). raw (Part 𝓛 Place Row (with_slot h) (named 0) κ q rb ro b o γ (sem 𝓛 (Rest 𝓛 rb ro h b o held)) (back 𝓛 rb ro h b o held lies) h.value γ'))))
    (lends_Part 𝓛 Place Row (with_slot h) (named 0) κ q rb ro b o γ (sem 𝓛 (Rest 𝓛 rb ro h b o held)) (back 𝓛 rb ro h b o held lies) (Place.coded.code h) (Place.coded.code h) h.value) $
    await ! tt $ pick ! (λ γ'.
    returns ! (look_at ! 0 refl) $ free_all ! refl $ keep ! (0 ∷ []) $
    let lent : MutBor Row.Denot = record { ref_ptr = (b, o); ghost_name = γ'; now = h.value } in
    use1 𝓛 (‵ ((MutRef (named 0) κ Row).own_val lent (vptr b o ∷ [])) ⊛ ‵ (flft κ q) ⊛ ‵ (follows Place Row γ γ' (with_slot h))) (id⊢ 𝓤 _) $ split3 ! $
    suffices ! _ (ends_at 𝓛 f.ended stays c y (vptr b o) lent (tt, tt) (tt, tt)) $
    nothing ! $ nothing ! $ fjoin ! $ join ! $ nothing ! $ move ! (2 ∷ 0 ∷ []) $ join ! $ join ! $ frame ! $ says ! refl $ done !)))))
