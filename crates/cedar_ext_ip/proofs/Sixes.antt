-- A text is read as an address of version 6 exactly where it is one.
use Rattle.std.proofs.Common.{◌≡◌, ℕ, ◌≤◌, ◌==◌, Bool, true, false, if◌then◌else◌, List, [], ◌∷◌, ◌++◌, Option, Some, None, option_map, refl, sym, ap, ◌∙◌, subst, arith, append-nil, append_assoc, inl, inr, lit≤}
use Rattle.std.specs.List.{list_any}
use Rattle.std.specs.Char.{digit_value}
use Rattle.std.specs.Net.Reader.{read_ipv6, whole_value}
use Rattle.std.specs.Net.Grammar as grammar
use Rattle.std.specs.Net.Addr.{ipv6_segments}
use Rattle.std.specs.Net.Grammar.{IsDotted, IsGroupsAfter, IsColonHex, IsIpv6Text}
use Rattle.std.specs.declared.net.ipv6_addr.Ipv6Addr.{Ipv6Addr}
use Rattle.std.proofs.NetLemmas.Ipv6.{read_ipv6_complete, read_ipv6_sound, EndsGroups-nil}
use Rattle.cedar_ext_ip.specs.declared.ip_version.IpVersion.TheVariants.{V6}
use Rattle.cedar_ext_ip.specs.Values.{IpValue}
use Rattle.cedar_ext_ip.specs.Texts.{IsGroups, IsEightGroups, IsSix, number_after}
use Rattle.cedar_ext_ip.specs.IpOf.{six_of}
use Rattle.cedar_ext_ip.proofs.Lacks.{Lacks, Lacks-append, Lacks-parts, Lacks-one, Lacks-digits}
use Rattle.cedar_ext_ip.proofs.Fours.{single, whole_found}

-- std's groups, which may end in an address of version 4, and ours, which may not

groups_after : (ipv4 : Bool) (lead text : List ℕ) (n : ℕ) (ns : List ℕ) → IsGroups text (n ∷ ns) → IsGroupsAfter ipv4 lead (lead ++ text) (n ∷ ns)
groups_after ipv4 lead text n [] g = inl (text, [], sym (append-nil (lead ++ text)), ((g.0, g.2), g.1), refl)
groups_after ipv4 lead text n (m ∷ ms) h =
    let (group, rest, is, g, more) = h in
    let split : lead ++ text ≡ (lead ++ group) ++ 58 ∷ rest = ap (λ (t : List ℕ). lead ++ t) is ∙ simp append_assoc in
    inl (group, 58 ∷ rest, split, ((g.0, g.2), g.1), groups_after ipv4 (58 ∷ []) rest m ms more)

std_groups : (ipv4 : Bool) (text ns : List ℕ) → IsGroups text ns → grammar.IsGroups ipv4 text ns
std_groups ipv4 text [] h = h
std_groups ipv4 text (n ∷ ns) h = groups_after ipv4 [] text n ns h

point : Lacks 46 (46 ∷ []) → ⊥
point h = let e = h.none in cc

dotted_has_point : (text octets : List ℕ) → IsDotted text octets → Lacks 46 text → ⊥
dotted_has_point text octets h lacks =
    let shown = subst (Lacks 46) h.spelled lacks in
    let front = (Lacks-parts 46 _ _ shown).0 in
    point (Lacks-parts 46 _ _ front).1

plain_after : (ipv4 : Bool) (lead text : List ℕ) (n : ℕ) (ns : List ℕ) → Lacks 46 text → IsGroupsAfter ipv4 lead text (n ∷ ns) → (rest : List ℕ) × (text ≡ lead ++ rest) × IsGroups rest (n ∷ ns)
plain_after ipv4 lead text n [] lacks (inl h) =
    (h.0, h.2 ∙ ap (λ (t : List ℕ). (lead ++ h.0) ++ t) h.4 ∙ append-nil (lead ++ h.0), (h.3.0.0, h.3.1, h.3.0.1))
plain_after ipv4 lead text n (m ∷ ms) lacks (inl h) =
    let group = h.0 in
    let rest = h.1 in
    let later = (Lacks-parts 46 (lead ++ group) rest (subst (Lacks 46) h.2 lacks)).1 in
    let (tail, split, groups) = plain_after ipv4 (58 ∷ []) rest m ms later h.4 in (
      group ++ 58 ∷ [] ++ tail,
      h.2 ∙ ap (λ (t : List ℕ). (lead ++ group) ++ t) split ∙ simp append_assoc,
      (group, tail, refl, (h.3.0.0, h.3.1, h.3.0.1), groups),
    )
plain_after ipv4 lead text n ns lacks (inr h) =
    absurd (dotted_has_point h.0 h.1 h.4 (Lacks-parts 46 lead h.0 (subst (Lacks 46) h.3 lacks)).1)

plain_groups : (ipv4 : Bool) (text ns : List ℕ) → Lacks 46 text → grammar.IsGroups ipv4 text ns → IsGroups text ns
plain_groups ipv4 text [] lacks h = h
plain_groups ipv4 text (n ∷ ns) lacks h =
    let (rest, same, groups) = plain_after ipv4 [] text n ns lacks h in
    subst (λ (t : List ℕ). IsGroups t (n ∷ ns)) (sym same) groups

pub colon_hex : (text ns : List ℕ) → IsEightGroups text ns → IsColonHex text ns
colon_hex text ns (inl h) = inl (std_groups true text ns h.0, h.1)
colon_hex text ns (inr h) = inr (record {
  head_text = h.before_text;
  tail_text = h.after_text;
  head = h.before;
  tail = h.after;
  spelled = h.text_is;
  head_groups = std_groups false h.before_text h.before h.before_groups;
  tail_groups = std_groups true h.after_text h.after h.after_groups;
  room = h.room;
  value = h.numbers_are;
})

pub eight_groups : (text ns : List ℕ) → Lacks 46 text → IsColonHex text ns → IsEightGroups text ns
eight_groups text ns lacks (inl h) = inl (plain_groups true text ns lacks h.0, h.1)
eight_groups text ns lacks (inr h) =
    let shown = subst (Lacks 46) h.spelled lacks in
    let parts = Lacks-parts 46 _ h.tail_text shown in
    let front = Lacks-parts 46 h.head_text _ parts.0 in
    inr (record {
      before_text = h.head_text;
      after_text = h.tail_text;
      before = h.head;
      after = h.tail;
      text_is = h.spelled;
      before_groups = plain_groups false h.head_text h.head front.0 h.head_groups;
      after_groups = plain_groups true h.tail_text h.tail parts.1 h.tail_groups;
      room = h.room;
      numbers_are = h.value;
    })

-- groups have digits and colons alone

Lacks-groups : (x : ℕ) (text ns : List ℕ) → 16 ≤ digit_value x → (58 ≡ x → ⊥) → IsGroups text ns → Lacks x text
Lacks-groups x text [] far differs h = subst (Lacks x) (sym h) (Lacks-digits 16 x [] far tt)
Lacks-groups x text (n ∷ []) far differs h = Lacks-digits 16 x text far h.0.1
Lacks-groups x text (n ∷ m ∷ ms) far differs h =
    let later = Lacks-groups x h.1 (m ∷ ms) far differs h.4 in
    let here = Lacks-append x h.0 (58 ∷ []) (Lacks-digits 16 x h.0 far h.3.0.1) (Lacks-one x 58 differs) in
    subst (Lacks x) (sym h.2) (Lacks-append x (h.0 ++ 58 ∷ []) h.1 here later)

Lacks-eight : (x : ℕ) (text ns : List ℕ) → 16 ≤ digit_value x → (58 ≡ x → ⊥) → IsEightGroups text ns → Lacks x text
Lacks-eight x text ns far differs (inl h) = Lacks-groups x text ns far differs h.0
Lacks-eight x text ns far differs (inr h) =
    let colon = Lacks-one x 58 differs in
    let front = Lacks-append x h.before_text (58 ∷ 58 ∷ []) (Lacks-groups x h.before_text h.before far differs h.before_groups) (Lacks-append x (58 ∷ []) (58 ∷ []) colon colon) in
    subst (Lacks x) (sym h.text_is) (Lacks-append x (h.before_text ++ 58 ∷ 58 ∷ []) h.after_text front (Lacks-groups x h.after_text h.after far differs h.after_groups))

pub Lacks-six : (x : ℕ) (text : List ℕ) (n : ℕ) → 16 ≤ digit_value x → (58 ≡ x → ⊥) → IsSix text n → Lacks x text
Lacks-six x text n far differs h = Lacks-eight x text h.0 far differs h.1

-- reading

abbrev six_from : Option (List ℕ) → Option IpValue
six_from o = option_map (λ (groups : List ℕ). single V6 (number_after 0 groups)) o

hex_found : (text ns : List ℕ) → Lacks 46 text → IsColonHex text ns → six_of text ≡ Some (single V6 (number_after 0 ns))
hex_found text ns lacks h =
    let read = ap read_ipv6 (sym (append-nil text)) ∙ read_ipv6_complete text ns [] h EndsGroups-nil in
    ap (λ (b : Bool). if b then None else six_from (whole_value (read_ipv6 text))) lacks.none
    ∙ ap (λ (r : Option (List ℕ × List ℕ)). six_from (whole_value r)) read

pub six_of-IsSix : (text : List ℕ) (n : ℕ) → IsSix text n → six_of text ≡ Some (single V6 n)
six_of-IsSix text n h =
    let lacks = Lacks-six 46 text n (lit≤ tt) (λ e. omega arith) h in
    hex_found text h.0 lacks (colon_hex text h.0 h.1) ∙ ap (λ (m : ℕ). Some (single V6 m)) (sym h.2)

whole_hex : (text ns : List ℕ) → whole_value (read_ipv6 text) ≡ Some ns → IsColonHex text ns
whole_hex text ns read =
    let (front, split, h) = read_ipv6_sound text ns [] (whole_found (read_ipv6 text) ns read) in
    let whole : front ≡ text = sym (append-nil front) ∙ sym split in
    subst (λ (t : List ℕ). IsColonHex t ns) whole h

pub IsSix-six_of : (text : List ℕ) (ip : IpValue) → six_of text ≡ Some ip → (n : ℕ) × IsSix text n × (ip ≡ single V6 n)
IsSix-six_of text ip e = at (list_any (λ (c : ℕ). c == 46) text) refl (whole_value (read_ipv6 text)) refl e
  where
    at : (b : Bool) → list_any (λ (c : ℕ). c == 46) text ≡ b → (o : Option (List ℕ)) → whole_value (read_ipv6 text) ≡ o → (if b then None else six_from o) ≡ Some ip → (n : ℕ) × IsSix text n × (ip ≡ single V6 n)
    at true dots o read k = absurd (cc)
    at false dots None read k = absurd (cc)
    at false dots (Some ns) read k =
        let eight = eight_groups text ns (record { none = dots }) (whole_hex text ns read) in
        let same : ip ≡ single V6 (number_after 0 ns) = cc in
        (number_after 0 ns, (ns, eight, refl), same)

-- What std's reader gives.

pub six_dotted : (text : List ℕ) → list_any (λ c. c == 46) text ≡ true → None ≡ six_of text
six_dotted text h = sym (ap (λ (b : Bool). if b then None else six_from (whole_value (read_ipv6 text))) h)

pub six_found : (text : List ℕ) (a : Ipv6Addr) (groups : List ℕ) (ip : IpValue) → list_any (λ c. c == 46) text ≡ false → IsIpv6Text text a → groups ≡ ipv6_segments a → ip ≡ single V6 (number_after 0 groups) → Some ip ≡ six_of text
six_found text a groups ip dots h same is =
    ap (λ (x : IpValue). Some x) (is ∙ ap (λ (ns : List ℕ). single V6 (number_after 0 ns)) same)
    ∙ sym (hex_found text (ipv6_segments a) (record { none = dots }) h)

pub six_none : (text : List ℕ) → list_any (λ c. c == 46) text ≡ false → ((a : Ipv6Addr) → IsIpv6Text text a → ⊥) → None ≡ six_of text
six_none text dots h = at (whole_value (read_ipv6 text)) refl
  where
    at : (o : Option (List ℕ)) → whole_value (read_ipv6 text) ≡ o → None ≡ six_of text
    at None read =
        sym (ap (λ (b : Bool). if b then None else six_from (whole_value (read_ipv6 text))) dots ∙ ap six_from read)
    at (Some ns) read = absurd (h (record { segments = ns }) (whole_hex text ns read))
