use Rattle.disk_tests.proofs.of_reopen.reopened.Goals as goal

pub reopen-requires : goal.reopen-requires
reopen-requires c =
    let history = c.in-Ok.attached.history in ∣ (
      history,
      _,
      c.in-Err-append.ensures.in_flight history _ c.in_ok-spelled-in-Ok.ensures.spelled
          c.in-Ok.ensures.settled,
    ) ∣₁
