mod Verdicts
