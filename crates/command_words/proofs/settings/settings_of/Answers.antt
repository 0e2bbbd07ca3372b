use Rattle.std.proofs.Common.{◌∙◌, sym, ap}
use Rattle.command_words.specs.Settings.{joined_of}
use Rattle.command_words.proofs.SettingLemmas.{settings-next, settings-joined}
use Rattle.command_words.proofs.settings.settings_of.Goals as goal

pub loop-word-preserved : goal.loop-word-preserved
loop-word-preserved c =
    let next =
    settings-next c.loop-word.said c.in_ok-said-2.said c.in-Some.word.now c.in_ok-digits.digits.now
    c.in_ok-digits.behind.now c.in-Some-setting_of.setting
    (ap joined_of (sym c.as_str.ensures) ∙ c.in_default-joined_of.ensures) (cc)
    (cc c.in_ok-said-2.ensures) in
    cc (c.in-Some.ensures.cases.0, c.in_ok-digits.ensures.cases.0)

pub loop-word-preserved-in-Some-joined_of : goal.loop-word-preserved-in-Some-joined_of
loop-word-preserved-in-Some-joined_of c =
    let next =
    settings-joined c.loop-word.said c.in_ok-said.said c.in-Some.word.now
    c.in-Some-joined_of.digits.now c.in-Some.behind.now c.in-Some-joined_of.setting
    (ap joined_of (sym c.as_str.ensures) ∙ c.in-Some-joined_of.ensures)
    (cc c.in_ok-said.ensures) in
    cc (c.in-Some.ensures.cases.0)
