-- An entry's line, put part by part behind what waits.
use Rattle.std.proofs.Common.{◌≡◌, ℕ, true, List, ◌∷◌, ◌++◌, codes, decimal, sym, ap, ◌∙◌, append_assoc}
use Rattle.std.specs.Prelude.{Result, Ok, Err, OnOk, is_ok, if◌then◌else◌}
use Rattle.journal_replay.specs.Journal.{fields_line}
use Rattle.journal_replay.specs.Plain.{are_plain}
use Rattle.journal_replay.proofs.PlainTexts.{fields-plain}

-- what a growth leaves where it succeeds
pub grown-ok : {T E : Type 0} (r : Result T E) (new grown old its : List ℕ) → new ≡ (if is_ok r then grown else old) → grown ≡ its → OnOk r (new ≡ its)
grown-ok (Ok x) new grown old its e f = e ∙ f
grown-ok (Err e) new grown old its h f = tt

regroup : (old cmd reply number : List ℕ)
    → ((((((old ++ codes "{\"cmd\":\"") ++ cmd) ++ codes "\",\"reply\":\"") ++ reply) ++ codes "\",\"seat\":") ++ number) ++ codes "}\n"
    ≡ old ++ ((codes "{\"cmd\":\"" ++ (cmd ++ 34 ∷ (codes ",\"reply\":\"" ++ (reply ++ 34 ∷ (codes ",\"seat\":" ++ (number ++ codes "}")))))) ++ codes "\n")
regroup old cmd reply number = simp append_assoc

pub pushed-entry : (old a b c d e f : List ℕ) (cmd reply : List ℕ) (seat : ℕ) → are_plain cmd ≡ true → are_plain reply ≡ true
    → a ≡ old ++ codes "{\"cmd\":\"" → b ≡ a ++ cmd → c ≡ b ++ codes "\",\"reply\":\"" → d ≡ c ++ reply → e ≡ d ++ codes "\",\"seat\":" → f ≡ e ++ decimal seat
    → f ++ codes "}\n" ≡ old ++ (fields_line cmd reply seat ++ codes "\n")
pushed-entry old a b c d e f cmd reply seat p q one two three four five six =
    ap (λ xs. xs ++ codes "}\n") (six ∙ ap (λ xs. xs ++ decimal seat) (five ∙ ap (λ xs. xs ++ codes "\",\"seat\":") (four ∙ ap (λ xs. xs ++ reply) (three ∙ ap (λ xs. xs ++ codes "\",\"reply\":\"") (two ∙ ap (λ xs. xs ++ cmd) one)))))
    ∙ regroup old cmd reply (decimal seat)
    ∙ ap (λ xs. old ++ (xs ++ codes "\n")) (sym (fields-plain cmd reply seat p q))
