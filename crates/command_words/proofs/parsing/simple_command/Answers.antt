use Rattle.std.proofs.Common.{◌≡◌, ◌∙◌, ap, ap₂, codes, false, true, ℕ, max, Option, None, Some, IsSomeAnd}
use Rattle.std.proofs.lemmas.Result.{IfOk-weaker}
use Rattle.clap.specs.Simple.{App, app_of, app_of_fields, new_app, on_top, with_rule}
use Rattle.clap.specs.Walk.{Rule, rule_of}
use Rattle.clap.specs.declared.builder.range.ValueRange.{ValueRange}
use Rattle.command_words.specs.Command.{mode_rule, rest_rule}
use Rattle.command_words.proofs.parsing.simple_command.Goals as goal

abbrev without_name : App → App
without_name = on_top (λ top. record top { no_binary_name = true })

abbrev without_help : App → App
without_help = on_top (λ top. record top { disable_help_flag = true })

-- `least..=most`, of the numbers that are written
ranged : (range : Option ValueRange) (least most : ℕ) → least ≡ 0 → most ≡ 2
    → IsSomeAnd range (λ r. r ≡ record { start_inclusive = least; end_inclusive = max most least }) → range ≡ rest_rule.range
ranged None least most low high given = absurd given
ranged (Some r) least most low high given = ap Some (given ∙ ap₂ (λ (n m : ℕ). record { start_inclusive = n; end_inclusive = max m n }) low high)

pub returns : goal.returns
returns c =
    let mode_is : rule_of c.required-mode.result ≡ mode_rule = ap rule_of c.required-mode.ensures ∙ ap (λ (r : Rule). record r { required = true }) c.new.ensures.rule in
    let range : c.num_args-rest.result.num_vals ≡ rest_rule.range = ranged _ c.new-3.result.start c.new-3.result.end c.new-3.ensures.start c.new-3.ensures.end c.num_args-rest.ensures.1 in
    let rest_is : rule_of c.num_args-rest.result ≡ rest_rule = ap rule_of c.num_args-rest.ensures.0
    ∙ ap₂ (λ (n : Option ValueRange) (r : Rule). record r { range = n }) range c.new-2.ensures.rule in
    let named : app_of c.no_binary_name.result ≡ without_name (new_app (codes "grape")) = ap app_of_fields c.no_binary_name.ensures ∙ ap without_name c.new-4.ensures.app in
    let begun : app_of c.disable_help_flag.result ≡ without_help (without_name (new_app (codes "grape"))) = ap app_of_fields c.disable_help_flag.ensures ∙ ap without_help named in
    let mode_local : c.required-mode.result.global ≡ false = ap (λ a. a.global) c.required-mode.ensures ∙ c.new.ensures.optional.1 in
    let rest_local : c.num_args-rest.result.global ≡ false = ap (λ a. a.global) c.num_args-rest.ensures.0 ∙ c.new-2.ensures.optional.1 in
    let first : app_of c.in_ok-arg.field-0 ≡ with_rule (without_help (without_name (new_app (codes "grape")))) mode_rule = c.in_ok-arg.ensures.shape mode_local ∙ ap₂ with_rule begun mode_is in
    IfOk-weaker c.arg-2.result _ _ (λ r added. added.shape rest_local ∙ ap₂ with_rule first rest_is) c.arg-2.ensures
