use Rattle.std.proofs.Common.{◌≡◌, ℕ, List, ◌++◌, codes, decimal, Option, option_map, rules, ◌∙◌, ap}
use Rattle.explainer.specs.declared.line.CarryStep.{CarryStep}
use Rattle.explainer.specs.Columns.{number_text, right_in}
use Rattle.explainer.proofs.Lines.{six-columns}
use Rattle.explainer.proofs.line.push_share.Goals as goal

pub returns : goal.returns
returns c =
    let v = c.args.view.now in
    let number : List ℕ → ℕ → ℕ → List ℕ = λ label places n. label ++ right_in places (decimal n) in
    let dash : List ℕ → ℕ → Option ℕ → List ℕ = λ label places n. label ++ right_in places (number_text n) in
    let carry : c.map.result ≡ option_map (λ (s : CarryStep). s.carry) c.args.step = search rules in
    let product : c.map-2.result ≡ option_map (λ (s : CarryStep). s.product) c.args.step = search rules in
    let rest : c.map-3.result ≡ option_map (λ (s : CarryStep). s.rest) c.args.step = search rules in
    six-columns c.push_number_or_dash-3.result c.args.out.now.items c.push_number.new.out.items c.push_number-2.new.out.items c.push_number_or_dash.new.out.items c.push_number_or_dash-2.new.out.items c.push_number-3.new.out.items c.push_number_or_dash-3.new.out.items
    (number (codes "arena ") 7 v.arena)
    (number (codes " request ") 5 v.request)
    (dash (codes " carry ") 8 (option_map (λ (s : CarryStep). s.carry) c.args.step))
    (dash (codes " product ") 10 (option_map (λ (s : CarryStep). s.product) c.args.step))
    (number (codes " allot ") 5 v.allot)
    (dash (codes " rest ") 8 (option_map (λ (s : CarryStep). s.rest) c.args.step))
    (c.in_ok-push_number.ensures ∙ ap (λ n. c.args.out.now.items ++ number (codes "arena ") 7 n) (c.from.ensures ∙ c.get.ensures))
    (c.in_ok-push_number-2.ensures ∙ ap (λ n. c.push_number.new.out.items ++ number (codes " request ") 5 n) c.from-2.ensures)
    (c.in_ok-push_number_or_dash.ensures ∙ ap (λ n. c.push_number-2.new.out.items ++ dash (codes " carry ") 8 n) carry)
    (c.in_ok-push_number_or_dash-2.ensures ∙ ap (λ n. c.push_number_or_dash.new.out.items ++ dash (codes " product ") 10 n) product)
    (c.in_ok-push_number-3.ensures ∙ ap (λ n. c.push_number_or_dash-2.new.out.items ++ number (codes " allot ") 5 n) c.from-3.ensures)
    (rw rest at c.push_number_or_dash-3.ensures)
