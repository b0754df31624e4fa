-- `into_loose` keeps both words.
use Rattle.std.proofs.Common.{◌≡◌, List, [], ◌∷◌, ◌++◌, refl, sym, subst}
use mir.Val.{Val, vptr}
use base.Logic.{SProp, ent, emp, id⊢}
use base.Fml.{ftrue}
use prog.Wp.{WpFn}
use types.Kit.{‵, raw, ◌⊛◌, ◌$◌, ◌∵◌, !, qed, by, move, keep, split, fsplit, fjoin, suffices, use0}
use types.Run.{stop, fld, of_opd, no_more, and_then, returns, enter}
use types.ByLocal.{alloc_all, pass_all, free_all, look_at, get, get_in, sets}
use types.Part.{agg, sub, whole}
use contract.Monad.{fact, fact_i}
use contract.Running.{tables}
use denote.Exit.{yes}
use denote.RattleType.{owns}
use denote.RawPtr.{block_ptr}
use denote.Signature.{types_at, plain}
use denote.Steps.{nothing}
use denote.Triple.Walked.{Stays, stay_dropped, walk_of, Goes-dropped}
use Rattle.std.proofs.alloc.Global.TheLaws as heap_laws
use Rattle.std.proofs.raw_atomic.Walks.{proved_at, leaves}
use Rattle.std.specs.contracts.impls.GlobalAllocator.TheImpl.{ghosts}
use Rattle.base_loose.proofs.Words.{two_words, words_typed, put_together}
use Rattle.cedar_c.specs.contracts.slot.Slot as slot
use Rattle.cedar_c.proofs.Stored.{Heap, Place, opened}
use Rattle.cedar_c.specs.contracts.handle.Handle.into_loose as f
use Rattle.cedar_c.proofs.handle.Handle.into_loose.Statement.{statement}
use Rattle.cedar_c.proofs.handle.Handle.into_loose.Code as code

abbrev stays : Stays f.ended.signature.params f.ended.kept
stays = (stay_dropped (plain (λ _. Place)) yes, tt)

pub into_loose_spec : {M : Type 1} → statement M
into_loose_spec 𝓤 𝓛 𝓜 𝓡 wired =
    let H = 𝓛.H in let 𝓣 = tables 𝓤 H 𝓜 𝓡 𝓡.env in let c = f.clauses 𝓛 𝓜.mem 𝓡.returns in let fn = code.function in
    proved_at 𝓛 f.ended stays c 𝓜 𝓡 (Goes-dropped 𝓛 0 (plain (λ _. Place)) yes (λ κs x w. refl), tt)
    f.Key.name fn (code.unfolded 𝓤 H 𝓜 𝓡 wired) (λ z are.
    let v = z.0.3.0 in let Post : Val → SProp 𝓤 = (walk_of 𝓛 f.ended stays c).post z in let Run : List Val → SProp 𝓤 = λ ws. WpFn 𝓤 H 𝓣.C 𝓣.Λ fn ws Post in
    qed 𝓛 ((‵ ftrue ⊛ ‵ (owns (types_at f.ended.signature.params z.0.0) z.0.3 z.0.4)) ∷ ‵ ftrue ∷ []) ∵
    split ! $ move ! (1 ∷ []) $ fsplit ! $
    opened ! v z.0.4.0 (λ b o h lies stored fits.
    -- [the memory of the slot and the right to free it; the allocator; nothing; nothing; nothing]
    let word : Val = two_words (vptr b o) h in let typed = words_typed slot.the_row Heap heap_laws.the_row_laws ghosts b o h fits in
    suffices ! (Run (word ∷ [])) (subst (λ (us : List Val). ent 𝓤 (Run (word ∷ [])) (Run us)) (sym (λ i. stored i ++ [])) (id⊢ 𝓤 (Run (word ∷ [])))) $
    enter ! 𝓣.C 𝓣.Λ fn (word ∷ []) Post $ alloc_all ! (λ l. pass_all ! refl (typed, tt) $
    sets ! (of_opd ! (get_in ! (fld ! refl (stop !)) (sub ! 0 refl (whole !)))) refl (tt, tt) $
    sets ! (of_opd ! (get_in ! (fld ! refl (stop !)) (sub ! 1 refl (whole !)))) refl fits $
    sets ! (of_opd ! (get ! refl)) refl (tt, tt) $
    sets ! (agg ! (and_then ! (get ! refl) (and_then ! (get ! refl) (no_more !)))) refl typed $
    put_together slot.the_row Heap heap_laws.the_row_laws ghosts ! b o h v.alloc v.value $
    use0 𝓛 (raw (fact 𝓤 (v.value ≡ v.value))) (fact_i 𝓤 (v.value ≡ v.value) (emp 𝓤) refl) $
    returns ! (look_at ! 0 refl) $ free_all ! refl $ nothing ! $ nothing ! $ fjoin ! $ keep ! (3 ∷ 0 ∷ 2 ∷ 1 ∷ []) $
    by ! (leaves 𝓛 f.ended stays c z word (record { at = block_ptr b o; alloc = v.alloc; value = v.value }) (tt, tt) (tt, tt)))))
