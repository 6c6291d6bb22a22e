mod Attempts
