-- Lent items, a member at a time.
use Rattle.std.proofs.Common.{◌≡◌, ◌≤◌, ◌+◌, ℕ, true, false, List, [], ◌∷◌, ◌++◌, length, take, get_or, Some, bytes_eq, refl, sym, ap, ◌∙◌, arith}
use Rattle.std.proofs.lemmas.Bool.{false≢true}
use Rattle.std.proofs.lemmas.List.{take_more}
use Rattle.std.proofs.lemmas.Slice.Eq.{bytes_eq-Decides}
use Rattle.serde_json.specs.Data.{Members, no_members, put}
use Rattle.serde_json.specs.Find.{get_member}
use Rattle.serde_json.proofs.Views.{get_member-put, get_member-put_other}
use Rattle.base_json.specs.LentItems.{put_values, value_view}
use Rattle.base_json.specs.declared.lent_item.ItemMember.{ItemMember}

pub put_values_last : (ms : List ItemMember) (m : ItemMember) (old : Members) → put_values (ms ++ m ∷ []) old ≡ put m.key.now (value_view m.value) (put_values ms old)
put_values_last [] m old = refl
put_values_last (x ∷ ms) m old = put_values_last ms m (put x.key.now (value_view x.value) old)

-- the last of the first members
pub last_taken : (ms : List ItemMember) (left next : ℕ) (d : ItemMember) → next + 1 ≡ left → left ≤ length ms → take left ms ≡ take next ms ++ get_or ms next d ∷ []
last_taken ms left next d e within = ap (λ n. take n ms) (sym e) ∙ take_more ms next d (omega arith)

module _ (k : List ℕ) (all : List ItemMember) (m : ItemMember) (rest : List ItemMember) (is : all ≡ rest ++ m ∷ []) where
  last : get_member k (put_values all no_members) ≡ get_member k (put m.key.now (value_view m.value) (put_values rest no_members))
  last = ap (λ (ms : List ItemMember). get_member k (put_values ms no_members)) is ∙ ap (get_member k) (put_values_last rest m no_members)

  -- the last member has the key
  pub last_here : bytes_eq m.key.now k ≡ true → get_member k (put_values all no_members) ≡ Some (value_view m.value)
  last_here e =
      let same : m.key.now ≡ k = (bytes_eq-Decides m.key.now k).0 e in
      last ∙ ap (λ (x : List ℕ). get_member k (put x (value_view m.value) (put_values rest no_members))) same ∙ get_member-put k (value_view m.value) (put_values rest no_members)

  -- it has another
  pub last_before : bytes_eq m.key.now k ≡ false → get_member k (put_values all no_members) ≡ get_member k (put_values rest no_members)
  last_before e =
      last
      ∙ get_member-put_other k m.key.now (value_view m.value) (put_values rest no_members) (λ h. false≢true (sym e ∙ (bytes_eq-Decides m.key.now k).1 (sym h)))
