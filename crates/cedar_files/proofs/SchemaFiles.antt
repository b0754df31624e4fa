-- Which schema files are texts.
use Rattle.std.proofs.Common.{◌≡◌, ℕ, Bool, true, false, List, Option, None, Some, option_map, refl, ap, sym, ◌∙◌}
use Rattle.std.specs.Prelude.{◌&&◌, not, is_some}
use Rattle.std.specs.Str.{is_utf8}
use Rattle.base_json.specs.JsonTree.{json_of}
use Rattle.cedar_ext.specs.declared.language.Language.TheVariants.{Cedar4}
use Rattle.cedar_parser.specs.Braces.{begins_with_brace}
use Rattle.cedar_files.specs.SchemaFile.{is_schema_text}

still_some : {A B : Type 0} (f : A → B) (o : Option A) → is_some (option_map f o) ≡ is_some o
still_some f None = refl
still_some f (Some x) = refl

-- whether there is a JSON is whether one was read
pub there : {A B : Type 0} (f : A → B) (o : Option A) (p : Option B) (b c : Bool) → option_map f o ≡ p → b ≡ is_some o → b ≡ c → is_some p ≡ c
there f o p b c same read is = sym (ap is_some same) ∙ still_some f o ∙ sym read ∙ is

module _ (bytes : List ℕ) where
  pub not_in_utf8 : is_utf8 bytes ≡ false → is_schema_text Cedar4 bytes ≡ false
  not_in_utf8 h = ap (λ (u : Bool). u && (not (begins_with_brace bytes) && not (is_some (json_of bytes)))) h

  pub in_json : is_utf8 bytes ≡ true → begins_with_brace bytes ≡ false → is_some (json_of bytes) ≡ true → is_schema_text Cedar4 bytes ≡ false
  in_json u b j = λ i. u i && (not (b i) && not (j i))

  pub in_text : is_utf8 bytes ≡ true → begins_with_brace bytes ≡ false → is_some (json_of bytes) ≡ false → is_schema_text Cedar4 bytes ≡ true
  in_text u b j = λ i. u i && (not (b i) && not (j i))
