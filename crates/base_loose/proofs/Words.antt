-- How the machine stores a box that was taken apart: two words, an address and a handle. Assumes `Logic`.
--     two_words                 the stored value
--     words_typed               it has its type, where the handle has
--     taken_apart, put_together what such a value owns: the memory at the address, and the handle
use Rattle.std.proofs.Common.{◌≡◌, ℕ, List, [], ◌∷◌, ◌++◌, refl, subst}
use mathlib.Core.Bool.{Bool, true, false, ◌&&◌}
use lib.Dec.{T}
use seplogic.Ra.Ura.{Ura}
use mir.Syntax.{impl, tnil, dnil}
use mir.Raw.{raw as bare}
use mir.Val.{Val, vptr, vstruct, vcons, vnil, of_list, has_ty, WT}
use base.Logic.{never, fst∗}
use types.Logic.{Logic, sem}
use types.Kit.{Item, Goal, Seq, Step, step, ‵, ◌$◌, move, drop, fsplit, fjoin, fpick, fpack, feq_i, feq_l}
use denote.RattleType.{RattleType, Valss}
use denote.Builtin.{RawPtr}
use denote.Memory.{lone}
use denote.RawPtr.{Ptr, block_ptr, null_ptr, ptr_val, in_a_block}
use denote.Steps.{nothing}
use denote.Param.{layout}
use denote.Param.Laws.{Laws}
use denote.Struct.Struct.{within}
use denote.Struct.Owning.{shape}
use Rattle.std.specs.declared.alloc.Allocator.{Ghosts}
use Rattle.std.proofs.alloc.Calls.{Al, handle_tells}
use Rattle.std.proofs.cell.Inside.{Good}
use Rattle.std.specs.Box.Ownership.{box_owns}
use Rattle.base_loose.specs.contracts.Loose as loose

abbrev pub two_words : Val → Val → Val
two_words v w = vstruct (vcons v (vcons w vnil))

with_true : (x : Bool) → T x → T (x && true)
with_true true t = tt
with_true false t = absurd t

module _ (Row Handle : RattleType) (laws : Laws Handle) (ghosts : Ghosts Handle.Denot) where
  abbrev pub Apart : RattleType
  Apart = loose.the_row Row Handle ghosts

  abbrev allocator : Al
  allocator = record { row = Handle; laws = laws; g = ghosts; d = impl [] tnil dnil; drops = impl [] tnil dnil }

  pub words_typed : (b o : ℕ) (h : Val) → Good (layout Handle) h → T (has_ty (layout Handle) h && true) × WT (two_words (vptr b o) h)
  words_typed b o h fits = (with_true (has_ty (layout Handle) h) fits.0, (tt, (fits.1, tt)))

  module _ {M : Type 1} {𝓤 : Ura M} {𝓛 : Logic 𝓤} {K : Type 0} {Γ : List (Item 𝓤)} {G : Goal 𝓤 𝓛.H} where
    pub taken_apart : K → (d : Apart.Denot) (vs : List Val)
        → ((b o : ℕ) (h : Val) → d.at ≡ block_ptr b o → vs ≡ two_words (vptr b o) h ∷ [] → Good (layout Handle) h
        → Seq K 𝓛 (‵ (box_owns (ghosts.dealloc_token d.alloc) Row (block_ptr b o) d.value) ∷ ‵ (Handle.own_val d.alloc (h ∷ [])) ∷ Γ) G)
        → Seq K 𝓛 (‵ (Apart.own_val d vs) ∷ Γ) G
    taken_apart t d vs next =
        fsplit t $ fpick t (λ fields. fsplit t $ feq_l t (λ whole. fsplit t $ feq_l t (λ address. fsplit t $
        handle_tells allocator t d.alloc fields.1.0 (λ h handle fits. move t (1 ∷ []) $ drop t $ move t (1 ∷ []) $
        in_a_block t d.at (λ p. box_owns (ghosts.dealloc_token d.alloc) Row p d.value)
        (fst∗ 𝓤 (never 𝓤) (sem 𝓛 (ghosts.dealloc_token d.alloc (bare (lone Row.mir)) null_ptr))) (λ b o lies.
        next b o h lies
        (subst (λ (p : Ptr). vs ≡ vstruct (of_list (ptr_val p ∷ h ∷ [])) ∷ []) lies
        (subst (λ (hs : List Val). vs ≡ vstruct (of_list (ptr_val d.at ∷ (hs ++ []))) ∷ []) handle
        (subst (λ (ps : List Val). vs ≡ vstruct (of_list (ps ++ (fields.1.0 ++ []))) ∷ []) address whole))) fits)))))

    pub put_together : K → (b o : ℕ) (h : Val) (a : Handle.Denot) (x : Row.Denot)
        → Step K 𝓛 (‵ (Apart.own_val (record { at = block_ptr b o; alloc = a; value = x }) (two_words (vptr b o) h ∷ [])) ∷ Γ) G
        (‵ (box_owns (ghosts.dealloc_token a) Row (block_ptr b o) x) ∷ ‵ (Handle.own_val a (h ∷ [])) ∷ Γ) G
    put_together t b o h a x = step (λ rest. let word : Val = two_words (vptr b o) h in
        nothing t $ move t (2 ∷ 0 ∷ []) $ fjoin t $ feq_i t (List Val) (vptr b o ∷ []) (vptr b o ∷ []) refl $ fjoin t $
        feq_i t (List Val) (word ∷ []) (word ∷ []) refl $ fjoin t $
        fpack t (Valss (RawPtr ∷ Handle ∷ [])) (within (shape (loose.the_type Row Handle ghosts)) (block_ptr b o, (a, tt)) (word ∷ [])) (vptr b o ∷ [], (h ∷ [], tt)) $
        fjoin t $ rest)
