-- How the machine stores a handle: two words, an address and nothing. Assumes `Logic`.
--     opened, closed    what such a value owns: the memory of the slot, and the allocator
--     made              a new handle owns the same
use Rattle.std.proofs.Common.{◌≡◌, ℕ, List, [], ◌∷◌, ◌++◌, refl, sym, ap, subst}
use seplogic.Ra.Ura.{Ura}
use mir.Syntax.{impl, tnil, dnil}
use mir.Raw.{raw as bare}
use mir.Val.{Val, vptr, vstruct, of_list}
use base.Logic.{never, fst∗}
use types.Logic.{Logic, sem}
use types.Kit.{Item, Goal, Seq, Step, step, ‵, ◌$◌, move, drop, fsplit, fjoin, fpick, fpack, rewrite, feq_i, feq_l}
use denote.RattleType.{RattleType, Valss}
use denote.Builtin.{RawPtr}
use denote.Memory.{lone}
use denote.RawPtr.{Ptr, block_ptr, null_ptr, ptr_val, in_a_block}
use denote.Steps.{nothing}
use denote.Param.{layout}
use denote.Struct.Struct.{within}
use denote.Struct.Owning.{shape}
use Rattle.std.proofs.alloc.Calls.{Al, handle_tells}
use Rattle.std.proofs.cell.Inside.{Good}
use Rattle.std.specs.Prelude.{Some}
use Rattle.std.specs.declared.alloc.Global.{Global}
use Rattle.std.specs.contracts.alloc.Global as heap
use Rattle.std.proofs.alloc.Global.TheLaws as heap_laws
use Rattle.std.specs.contracts.impls.GlobalAllocator.TheImpl.{ghosts}
use Rattle.base_loose.proofs.Words.{two_words}
use Rattle.cedar_c.specs.declared.slot.Slot.{Slot}
use Rattle.cedar_c.specs.contracts.slot.Slot as slot
use Rattle.cedar_c.specs.contracts.handle.Handle as handle
use Rattle.cedar_c.specs.contracts.new_handle.NewHandle as new_handle
use Rattle.cedar_c.specs.Handles.{slot_owns}

abbrev pub Heap : RattleType
Heap = heap.the_row

abbrev pub Place : RattleType
Place = handle.the_row

abbrev pub New : RattleType
New = new_handle.the_row

abbrev allocator : Al
allocator = record { row = Heap; laws = heap_laws.the_row_laws; g = ghosts; d = impl [] tnil dnil; drops = impl [] tnil dnil }

module _ {M : Type 1} {𝓤 : Ura M} {𝓛 : Logic 𝓤} {K : Type 0} {Γ : List (Item 𝓤)} {G : Goal 𝓤 𝓛.H} where
  pub opened : K → (d : Place.Denot) (vs : List Val)
      → ((b o : ℕ) (h : Val) → d.at ≡ block_ptr b o → vs ≡ two_words (vptr b o) h ∷ [] → Good (layout Heap) h
      → Seq K 𝓛 (‵ (slot_owns d.alloc (block_ptr b o) d.value) ∷ ‵ (Heap.own_val d.alloc (h ∷ [])) ∷ Γ) G)
      → Seq K 𝓛 (‵ (Place.own_val d vs) ∷ Γ) G
  opened t d vs next =
      fsplit t $ fpick t (λ fields. fsplit t $ feq_l t (λ whole. fsplit t $ feq_l t (λ address. fsplit t $
      handle_tells allocator t d.alloc fields.1.0 (λ h held fits. move t (1 ∷ []) $ drop t $ move t (1 ∷ []) $
      in_a_block t d.at (λ p. slot_owns d.alloc p d.value)
      (fst∗ 𝓤 (never 𝓤) (sem 𝓛 (ghosts.dealloc_token d.alloc (bare (lone slot.the_row.mir)) null_ptr))) (λ b o lies.
      next b o h lies
      (subst (λ (p : Ptr). vs ≡ vstruct (of_list (ptr_val p ∷ h ∷ [])) ∷ []) lies
      (subst (λ (hs : List Val). vs ≡ vstruct (of_list (ptr_val d.at ∷ (hs ++ []))) ∷ []) held
      (subst (λ (ps : List Val). vs ≡ vstruct (of_list (ps ++ (fields.1.0 ++ []))) ∷ []) address whole))) fits)))))

  pub closed : K → (d : Place.Denot) (b o : ℕ) (h : Val) (x : Slot) → d.at ≡ block_ptr b o
      → Step K 𝓛 (‵ (Place.own_val (record d { value = x }) (two_words (vptr b o) h ∷ [])) ∷ Γ) G
      (‵ (slot_owns d.alloc (block_ptr b o) x) ∷ ‵ (Heap.own_val d.alloc (h ∷ [])) ∷ Γ) G
  closed t d b o h x lies = step (λ rest. let word : Val = two_words (vptr b o) h in
      rewrite t 0 (λ (p : Ptr). ‵ (slot_owns d.alloc p x)) (sym lies) refl $
      nothing t $ move t (2 ∷ 0 ∷ []) $ fjoin t $
      feq_i t (List Val) (vptr b o ∷ []) (ptr_val d.at ∷ []) (ap (λ (p : Ptr). ptr_val p ∷ []) (sym lies)) $ fjoin t $
      feq_i t (List Val) (word ∷ []) (word ∷ []) refl $ fjoin t $
      fpack t (Valss (RawPtr ∷ Heap ∷ [])) (within (shape handle.the_type) (d.at, (heap.the_field.into d.alloc, tt)) (word ∷ [])) (vptr b o ∷ [], (h ∷ [], tt)) $
      fjoin t $ rest)

  pub made : K → (b o : ℕ) (h : Val) (a : Global) (x : Slot)
      → Step K 𝓛 (‵ (New.own_val (record { at = block_ptr b o; alloc = a; value = Some x }) (two_words (vptr b o) h ∷ [])) ∷ Γ) G
      (‵ (slot_owns a (block_ptr b o) x) ∷ ‵ (Heap.own_val a (h ∷ [])) ∷ Γ) G
  made t b o h a x = step (λ rest. let word : Val = two_words (vptr b o) h in
      nothing t $ move t (2 ∷ 0 ∷ []) $ fjoin t $ feq_i t (List Val) (vptr b o ∷ []) (vptr b o ∷ []) refl $ fjoin t $
      feq_i t (List Val) (word ∷ []) (word ∷ []) refl $ fjoin t $
      fpack t (Valss (RawPtr ∷ Heap ∷ [])) (within (shape new_handle.the_type) (block_ptr b o, (heap.the_field.into a, tt)) (word ∷ [])) (vptr b o ∷ [], (h ∷ [], tt)) $
      fjoin t $ rest)
