use Rattle.rv_command.proofs.arguments.parser.Goals as goal

pub returns : goal.returns
returns c =
    let with_run = c.with_command-program.ensures.arguments _ _ c.program.ensures.arguments
    c.flagged_command.ensures.arguments in
    let with_reference = c.with_command-program-2.ensures.arguments _ _ with_run c.limited_command.ensures.arguments in
    let with_check = c.with_command-program-3.ensures.arguments _ _ with_reference c.check_command.ensures.arguments in
    let with_picture = c.with_command-program-4.ensures.arguments _ _ with_check c.picture_command.ensures.arguments in
    let with_log = c.with_command-program-5.ensures.arguments _ _ with_picture c.limited_command-2.ensures.arguments in
    let with_states = c.with_command-program-6.ensures.arguments _ _ with_log c.stretch_command.ensures.arguments in
    let with_page = c.with_command-program-7.ensures.arguments _ _ with_states c.stretch_command-2.ensures.arguments in
    let with_explain = c.with_command-program-8.ensures.arguments _ _ with_page c.explain_command.ensures.arguments in
    let with_profile = c.with_command-program-9.ensures.arguments _ _
    with_explain c.flagged_command-2.ensures.arguments in
    let with_path = c.with_command-program-10.ensures.arguments _ _ with_profile
    c.limited_command-3.ensures.arguments in
    let with_compare = c.with_command-program-11.ensures.arguments _ _ with_path c.compare_command.ensures.arguments in
    record { arguments = c.with_command.ensures.arguments _ _ with_compare c.sensitivity_command.ensures.arguments }
